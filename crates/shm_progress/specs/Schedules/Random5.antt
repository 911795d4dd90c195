-- Random schedules; what they leave unfinished comes from an independent program.
use Rattle.std.specs.Prelude.{[], ◌∷◌}
use Rattle.shm_model.specs.World.{New}
use Rattle.shm_laws.specs.Rows.Words.{attach, creat, deliver, detach, get, load, lose, remove, repeat, restart, rw, tick}
use Rattle.shm_progress.specs.Schedule.{Schedule, Unfinished}

-- 16 sites; 90 events, then rounds of 95 and 16
abbrev pub ninth : Schedule
ninth = record {
  opening = New 16;
  faulty =
      get 4 0 0 2 4096 0o666 creat ∷ deliver 0 ∷ deliver 1 ∷ get 1 0 0 2 4096 0o666 creat ∷ deliver 2 ∷ get 1 0 0 0 4096 0o666 creat ∷ repeat 3 ∷ lose 3 ∷
      get 4 0 0 0 4096 0o666 creat ∷ repeat 4 ∷ deliver 5 ∷ deliver 4 ∷ get 4 0 0 0 4096 0o666 creat ∷ repeat 6 ∷ get 3 0 0 2 4096 0o666 creat ∷
      deliver 8 ∷ repeat 7 ∷ deliver 10 ∷ deliver 9 ∷ deliver 6 ∷ restart 0 ∷ repeat 7 ∷ deliver 11 ∷ tick 3 ∷ deliver 7 ∷ deliver 12 ∷
      get 0 0 0 2 4096 0o666 creat ∷ tick 2 ∷ get 0 0 0 0 4096 0o666 creat ∷ remove 0 0 0 2 ∷ deliver 13 ∷ get 4 0 0 1 4096 0o666 creat ∷ deliver 14 ∷
      get 0 0 0 2 4096 0o666 creat ∷ attach 1 0 0 4 rw ∷ deliver 15 ∷ deliver 17 ∷ attach 1 0 0 20 rw ∷ get 4 0 0 2 4096 0o666 creat ∷ deliver 16 ∷
      deliver 20 ∷ remove 0 0 0 4 ∷ deliver 19 ∷ deliver 21 ∷ attach 3 0 0 4 rw ∷ get 4 0 0 0 4096 0o666 creat ∷ get 5 0 0 1 4096 0o666 creat ∷
      deliver 23 ∷ deliver 24 ∷ deliver 18 ∷ deliver 26 ∷ get 2 0 0 1 4096 0o666 creat ∷ get 4 0 0 1 4096 0o666 creat ∷ attach 2 0 0 4 rw ∷
      get 3 0 0 0 4096 0o666 creat ∷ tick 4 ∷ remove 1 0 0 2 ∷ get 5 0 0 2 4096 0o666 creat ∷ get 4 0 0 1 4096 0o666 creat ∷ deliver 25 ∷ deliver 27 ∷
      remove 2 0 0 20 ∷ get 0 0 0 0 4096 0o666 creat ∷ get 4 0 0 1 4096 0o666 creat ∷ get 5 0 0 2 4096 0o666 creat ∷ detach 1 0 ∷ deliver 32 ∷
      get 3 0 0 0 4096 0o666 creat ∷ tick 4 ∷ attach 3 0 0 20 rw ∷ deliver 33 ∷ get 5 0 0 2 4096 0o666 creat ∷ lose 29 ∷ deliver 28 ∷ repeat 35 ∷ tick 3 ∷
      lose 22 ∷ get 5 0 0 0 4096 0o666 creat ∷ restart 13 ∷ deliver 30 ∷ deliver 36 ∷ get 2 0 0 0 4096 0o666 creat ∷ deliver 47 ∷
      get 4 0 0 0 4096 0o666 creat ∷ get 4 0 0 0 4096 0o666 creat ∷ load 1 0 2 ∷ attach 1 0 0 1 rw ∷ deliver 53 ∷ repeat 34 ∷ lose 41 ∷ [];
  first =
      tick 8 ∷ deliver 59 ∷ tick 9 ∷ deliver 45 ∷ tick 15 ∷ tick 13 ∷ deliver 49 ∷ deliver 48 ∷ tick 6 ∷ deliver 52 ∷ tick 0 ∷ deliver 64 ∷ deliver 35 ∷
      deliver 34 ∷ deliver 63 ∷ deliver 61 ∷ deliver 37 ∷ deliver 57 ∷ tick 7 ∷ deliver 54 ∷ deliver 60 ∷ deliver 46 ∷ tick 5 ∷ tick 10 ∷ deliver 65 ∷
      tick 11 ∷ tick 14 ∷ tick 1 ∷ tick 12 ∷ deliver 70 ∷ deliver 51 ∷ tick 3 ∷ deliver 71 ∷ deliver 40 ∷ deliver 74 ∷ tick 2 ∷ deliver 31 ∷ deliver 56 ∷
      deliver 39 ∷ deliver 79 ∷ tick 4 ∷ deliver 86 ∷ deliver 69 ∷ deliver 90 ∷ deliver 38 ∷ deliver 72 ∷ deliver 93 ∷ deliver 95 ∷ deliver 50 ∷
      deliver 42 ∷ deliver 98 ∷ deliver 58 ∷ deliver 91 ∷ deliver 83 ∷ deliver 96 ∷ deliver 76 ∷ deliver 89 ∷ deliver 77 ∷ deliver 55 ∷ deliver 44 ∷
      deliver 99 ∷ deliver 94 ∷ deliver 97 ∷ deliver 78 ∷ deliver 67 ∷ deliver 103 ∷ deliver 68 ∷ deliver 62 ∷ deliver 88 ∷ deliver 102 ∷ deliver 87 ∷
      deliver 73 ∷ deliver 66 ∷ deliver 81 ∷ deliver 80 ∷ deliver 106 ∷ deliver 84 ∷ deliver 104 ∷ deliver 108 ∷ deliver 101 ∷ deliver 92 ∷ deliver 105 ∷
      deliver 109 ∷ deliver 82 ∷ deliver 107 ∷ deliver 100 ∷ deliver 43 ∷ deliver 111 ∷ deliver 85 ∷ deliver 113 ∷ deliver 112 ∷ deliver 75 ∷ deliver 114 ∷
      deliver 110 ∷ deliver 115 ∷ [];
  second =
      tick 12 ∷ tick 14 ∷ tick 2 ∷ tick 13 ∷ tick 1 ∷ tick 7 ∷ tick 10 ∷ tick 8 ∷ tick 9 ∷ tick 4 ∷ tick 5 ∷ tick 11 ∷ tick 6 ∷ tick 3 ∷ tick 0 ∷ tick 15 ∷ [];
}

abbrev pub ninth_left : Unfinished
ninth_left = record { on_their_way = 23; pending = 1; running = 0; waiting = 0; calls = 5; purges = 16 }

abbrev pub ninth_turned_away : Unfinished
ninth_turned_away = record { on_their_way = 0; pending = 0; running = 0; waiting = 0; calls = 0; purges = 0 }

-- 16 sites; 90 events, then rounds of 121 and 16
abbrev pub tenth : Schedule
tenth = record {
  opening = New 16;
  faulty =
      get 3 0 0 2 4096 0o666 creat ∷ get 1 0 0 2 4096 0o666 creat ∷ get 5 0 0 1 4096 0o666 creat ∷ deliver 1 ∷ deliver 2 ∷ remove 2 0 0 2 ∷ deliver 5 ∷
      restart 12 ∷ deliver 11 ∷ get 0 0 0 1 4096 0o666 creat ∷ get 0 0 0 2 4096 0o666 creat ∷ get 5 0 0 0 4096 0o666 creat ∷ deliver 7 ∷ deliver 22 ∷
      tick 15 ∷ deliver 8 ∷ tick 14 ∷ deliver 20 ∷ attach 2 0 0 2 rw ∷ get 4 0 0 2 4096 0o666 creat ∷ attach 2 0 0 2 rw ∷ deliver 12 ∷
      get 2 0 0 2 4096 0o666 creat ∷ deliver 25 ∷ restart 7 ∷ get 0 0 0 0 4096 0o666 creat ∷ get 3 0 0 1 4096 0o666 creat ∷ repeat 21 ∷
      get 3 0 0 2 4096 0o666 creat ∷ repeat 0 ∷ get 1 0 0 0 4096 0o666 creat ∷ lose 19 ∷ get 1 0 0 0 4096 0o666 creat ∷ get 4 0 0 1 4096 0o666 creat ∷
      get 0 0 0 0 4096 0o666 creat ∷ get 5 0 0 2 4096 0o666 creat ∷ deliver 9 ∷ lose 28 ∷ deliver 10 ∷ tick 2 ∷ get 1 0 0 2 4096 0o666 creat ∷ deliver 33 ∷
      get 2 0 0 1 4096 0o666 creat ∷ get 4 0 0 2 4096 0o666 creat ∷ attach 2 0 0 2 rw ∷ get 1 0 0 1 4096 0o666 creat ∷ lose 18 ∷
      get 0 0 0 1 4096 0o666 creat ∷ deliver 44 ∷ deliver 14 ∷ deliver 48 ∷ deliver 40 ∷ deliver 6 ∷ get 3 0 0 0 4096 0o666 creat ∷ deliver 3 ∷
      deliver 49 ∷ deliver 55 ∷ lose 30 ∷ deliver 27 ∷ deliver 46 ∷ deliver 21 ∷ get 4 0 0 0 4096 0o666 creat ∷ lose 57 ∷ restart 12 ∷
      get 2 0 0 1 4096 0o666 creat ∷ tick 11 ∷ lose 50 ∷ repeat 38 ∷ remove 1 0 0 18 ∷ repeat 23 ∷ deliver 34 ∷ tick 9 ∷ get 3 0 0 2 4096 0o666 creat ∷
      deliver 51 ∷ deliver 58 ∷ deliver 42 ∷ get 3 0 0 2 4096 0o666 creat ∷ deliver 13 ∷ get 0 0 0 1 4096 0o666 creat ∷ tick 3 ∷ deliver 61 ∷
      get 2 0 0 2 4096 0o666 creat ∷ get 5 0 0 1 4096 0o666 creat ∷ remove 2 0 0 2 ∷ get 4 0 0 0 4096 0o666 creat ∷ remove 1 0 0 1 ∷ deliver 59 ∷
      deliver 37 ∷ tick 4 ∷ remove 0 0 0 1 ∷ [];
  first =
      deliver 53 ∷ deliver 65 ∷ tick 14 ∷ tick 7 ∷ tick 13 ∷ deliver 26 ∷ tick 10 ∷ deliver 35 ∷ tick 4 ∷ deliver 64 ∷ deliver 41 ∷ tick 9 ∷ tick 1 ∷
      deliver 43 ∷ deliver 15 ∷ tick 2 ∷ tick 5 ∷ tick 6 ∷ tick 15 ∷ deliver 29 ∷ deliver 17 ∷ deliver 47 ∷ deliver 84 ∷ deliver 67 ∷ deliver 82 ∷
      deliver 88 ∷ deliver 31 ∷ deliver 39 ∷ tick 0 ∷ tick 8 ∷ tick 11 ∷ tick 3 ∷ deliver 80 ∷ deliver 70 ∷ deliver 81 ∷ deliver 76 ∷ deliver 90 ∷
      deliver 93 ∷ tick 12 ∷ deliver 69 ∷ deliver 91 ∷ deliver 45 ∷ deliver 72 ∷ deliver 96 ∷ deliver 106 ∷ deliver 98 ∷ deliver 101 ∷ deliver 99 ∷
      deliver 74 ∷ deliver 63 ∷ deliver 108 ∷ deliver 104 ∷ deliver 89 ∷ deliver 52 ∷ deliver 105 ∷ deliver 118 ∷ deliver 103 ∷ deliver 38 ∷ deliver 79 ∷
      deliver 97 ∷ deliver 16 ∷ deliver 23 ∷ deliver 100 ∷ deliver 116 ∷ deliver 86 ∷ deliver 102 ∷ deliver 110 ∷ deliver 4 ∷ deliver 68 ∷ deliver 0 ∷
      deliver 60 ∷ deliver 78 ∷ deliver 122 ∷ deliver 73 ∷ deliver 123 ∷ deliver 66 ∷ deliver 119 ∷ deliver 36 ∷ deliver 121 ∷ deliver 92 ∷ deliver 56 ∷
      deliver 94 ∷ deliver 124 ∷ deliver 62 ∷ deliver 114 ∷ deliver 77 ∷ deliver 128 ∷ deliver 87 ∷ deliver 120 ∷ deliver 112 ∷ deliver 130 ∷ deliver 113 ∷
      deliver 115 ∷ deliver 126 ∷ deliver 117 ∷ deliver 32 ∷ deliver 83 ∷ deliver 127 ∷ deliver 54 ∷ deliver 71 ∷ deliver 125 ∷ deliver 131 ∷ deliver 109 ∷
      deliver 132 ∷ deliver 111 ∷ deliver 134 ∷ deliver 136 ∷ deliver 85 ∷ deliver 129 ∷ deliver 95 ∷ deliver 135 ∷ deliver 139 ∷ deliver 24 ∷
      deliver 137 ∷ deliver 133 ∷ deliver 138 ∷ deliver 107 ∷ deliver 140 ∷ deliver 141 ∷ deliver 75 ∷ deliver 142 ∷ [];
  second =
      tick 14 ∷ tick 10 ∷ tick 15 ∷ tick 1 ∷ tick 7 ∷ tick 13 ∷ tick 11 ∷ tick 5 ∷ tick 2 ∷ tick 4 ∷ tick 8 ∷ tick 0 ∷ tick 9 ∷ tick 3 ∷ tick 12 ∷ tick 6 ∷ [];
}

abbrev pub tenth_left : Unfinished
tenth_left = record { on_their_way = 30; pending = 0; running = 0; waiting = 0; calls = 6; purges = 9 }

abbrev pub tenth_turned_away : Unfinished
tenth_turned_away = record { on_their_way = 0; pending = 0; running = 0; waiting = 0; calls = 0; purges = 0 }
