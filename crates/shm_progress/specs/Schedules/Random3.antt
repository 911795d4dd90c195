-- Random schedules; what they leave unfinished comes from an independent program.
use Rattle.std.specs.Prelude.{[], ◌∷◌}
use Rattle.shm_model.specs.World.{Framed, Preset}
use Rattle.shm_laws.specs.Rows.Words.{attach, creat, deliver, detach, get, load, lose, remove, repeat, restart, rw, stat, store, tick}
use Rattle.shm_progress.specs.Schedule.{Schedule, Unfinished}

-- 16 sites, 3 pages, 1 frame; 60 events, then rounds of 136 and 16
abbrev pub fifth : Schedule
fifth = record {
  opening = Framed 16 3 1;
  faulty =
      load 1 0 3 ∷ load 0 0 6 ∷ deliver 0 ∷ deliver 1 ∷ load 13 0 4 ∷ restart 3 ∷ deliver 2 ∷ tick 2 ∷ load 10 0 0 ∷ store 4 0 8195 139 ∷ tick 15 ∷
      deliver 4 ∷ tick 14 ∷ deliver 5 ∷ store 5 0 4098 25 ∷ deliver 7 ∷ deliver 9 ∷ deliver 6 ∷ load 7 0 4097 ∷ restart 9 ∷ load 12 0 4100 ∷ deliver 11 ∷
      store 6 0 0 42 ∷ detach 12 0 ∷ store 13 0 2 105 ∷ load 1 0 4097 ∷ store 15 0 4098 251 ∷ deliver 12 ∷ load 9 0 4097 ∷ tick 0 ∷ deliver 17 ∷
      load 5 0 2 ∷ deliver 8 ∷ load 4 0 4103 ∷ store 14 0 8194 24 ∷ deliver 19 ∷ deliver 16 ∷ deliver 3 ∷ store 0 0 3 157 ∷ restart 11 ∷ repeat 23 ∷
      load 7 0 8195 ∷ store 9 0 0 233 ∷ load 9 0 4099 ∷ store 9 0 8197 246 ∷ load 6 0 8193 ∷ load 9 0 4099 ∷ store 11 0 8197 51 ∷ deliver 31 ∷ deliver 14 ∷
      stat 8 1 1 0 ∷ lose 24 ∷ tick 8 ∷ lose 34 ∷ load 7 0 8198 ∷ tick 14 ∷ load 11 0 8195 ∷ store 13 0 2 202 ∷ restart 0 ∷ deliver 25 ∷ [];
  first =
      deliver 29 ∷ tick 2 ∷ tick 1 ∷ tick 7 ∷ deliver 15 ∷ tick 13 ∷ tick 10 ∷ tick 4 ∷ deliver 18 ∷ tick 9 ∷ tick 14 ∷ tick 15 ∷ deliver 46 ∷ tick 11 ∷
      tick 12 ∷ deliver 21 ∷ deliver 23 ∷ tick 0 ∷ deliver 27 ∷ deliver 49 ∷ deliver 45 ∷ deliver 39 ∷ deliver 37 ∷ deliver 43 ∷ deliver 47 ∷ tick 5 ∷
      deliver 33 ∷ deliver 51 ∷ deliver 30 ∷ deliver 26 ∷ deliver 22 ∷ tick 6 ∷ deliver 41 ∷ deliver 58 ∷ deliver 10 ∷ tick 3 ∷ tick 8 ∷ deliver 53 ∷
      deliver 60 ∷ deliver 32 ∷ deliver 59 ∷ load 11 0 8197 ∷ deliver 35 ∷ deliver 40 ∷ deliver 62 ∷ deliver 55 ∷ deliver 61 ∷ deliver 20 ∷ deliver 56 ∷
      deliver 50 ∷ deliver 68 ∷ deliver 54 ∷ deliver 36 ∷ deliver 67 ∷ load 8 0 4100 ∷ deliver 52 ∷ deliver 63 ∷ deliver 28 ∷ deliver 70 ∷ deliver 42 ∷
      deliver 38 ∷ deliver 72 ∷ deliver 65 ∷ deliver 69 ∷ deliver 74 ∷ deliver 48 ∷ deliver 13 ∷ deliver 75 ∷ deliver 64 ∷ deliver 76 ∷ deliver 57 ∷
      deliver 44 ∷ load 10 0 8195 ∷ deliver 79 ∷ load 9 0 4 ∷ deliver 73 ∷ deliver 66 ∷ deliver 71 ∷ deliver 80 ∷ deliver 81 ∷ deliver 82 ∷ deliver 78 ∷
      deliver 83 ∷ deliver 77 ∷ deliver 86 ∷ deliver 87 ∷ deliver 88 ∷ deliver 84 ∷ deliver 90 ∷ deliver 85 ∷ deliver 91 ∷ deliver 89 ∷ deliver 93 ∷
      deliver 94 ∷ deliver 96 ∷ deliver 92 ∷ deliver 95 ∷ deliver 99 ∷ deliver 97 ∷ deliver 101 ∷ deliver 100 ∷ deliver 102 ∷ deliver 98 ∷ deliver 105 ∷
      deliver 106 ∷ deliver 104 ∷ deliver 107 ∷ deliver 109 ∷ deliver 103 ∷ deliver 110 ∷ deliver 108 ∷ deliver 111 ∷ deliver 114 ∷ deliver 112 ∷
      deliver 113 ∷ deliver 116 ∷ deliver 117 ∷ deliver 115 ∷ deliver 120 ∷ deliver 118 ∷ deliver 121 ∷ deliver 122 ∷ deliver 123 ∷ deliver 125 ∷
      deliver 124 ∷ deliver 126 ∷ deliver 119 ∷ store 11 0 5 225 ∷ deliver 129 ∷ deliver 127 ∷ deliver 130 ∷ deliver 128 ∷ deliver 133 ∷ deliver 131 ∷
      deliver 132 ∷ deliver 134 ∷ [];
  second =
      tick 5 ∷ tick 7 ∷ tick 11 ∷ tick 12 ∷ tick 4 ∷ tick 10 ∷ tick 0 ∷ tick 14 ∷ tick 8 ∷ tick 13 ∷ tick 1 ∷ tick 6 ∷ tick 9 ∷ tick 2 ∷ tick 15 ∷ tick 3 ∷ [];
}

abbrev pub fifth_left : Unfinished
fifth_left = record { on_their_way = 18; pending = 14; running = 3; waiting = 3; calls = 2; purges = 0 }

abbrev pub fifth_turned_away : Unfinished
fifth_turned_away = record { on_their_way = 0; pending = 0; running = 0; waiting = 0; calls = 0; purges = 0 }

-- 16 sites, 2 pages; 70 events, then rounds of 105 and 16
abbrev pub sixth : Schedule
sixth = record {
  opening = Preset 16 2;
  faulty =
      load 1 0 3 ∷ load 0 0 6 ∷ deliver 0 ∷ deliver 1 ∷ get 0 2 0 1 4096 0o666 creat ∷ deliver 3 ∷ deliver 4 ∷ store 3 0 4102 87 ∷
      get 6 0 0 2 4096 0o666 creat ∷ store 4 0 4099 149 ∷ deliver 7 ∷ detach 13 0 ∷ lose 2 ∷ deliver 8 ∷ deliver 10 ∷ deliver 6 ∷ remove 9 0 0 0 ∷
      store 7 0 5 76 ∷ detach 13 0 ∷ load 12 0 4098 ∷ tick 0 ∷ store 0 0 4097 98 ∷ stat 13 1 1 0 ∷ store 2 0 4102 74 ∷ deliver 5 ∷ detach 11 0 ∷ tick 15 ∷
      deliver 19 ∷ detach 4 0 ∷ deliver 11 ∷ lose 16 ∷ detach 15 0 ∷ repeat 9 ∷ restart 5 ∷ load 2 0 4097 ∷ load 3 0 6 ∷ deliver 23 ∷
      get 2 1 0 2 4096 0o666 creat ∷ detach 7 0 ∷ get 6 2 0 2 4096 0o666 creat ∷ deliver 9 ∷ deliver 28 ∷ deliver 13 ∷ tick 6 ∷ deliver 26 ∷ deliver 29 ∷
      deliver 17 ∷ load 12 0 5 ∷ store 9 0 4101 246 ∷ load 15 0 3 ∷ tick 9 ∷ attach 12 0 0 0 rw ∷ tick 11 ∷ repeat 38 ∷ attach 15 0 0 0 rw ∷
      get 15 1 0 1 4096 0o666 creat ∷ lose 39 ∷ repeat 25 ∷ tick 8 ∷ lose 36 ∷ load 11 0 4099 ∷ store 7 0 4099 153 ∷ deliver 22 ∷ store 2 0 6 200 ∷
      deliver 34 ∷ tick 4 ∷ detach 8 0 ∷ deliver 30 ∷ tick 2 ∷ detach 2 0 ∷ [];
  first =
      deliver 15 ∷ deliver 20 ∷ deliver 46 ∷ tick 1 ∷ tick 13 ∷ tick 15 ∷ deliver 40 ∷ deliver 18 ∷ tick 2 ∷ tick 10 ∷ tick 5 ∷ tick 14 ∷ deliver 24 ∷
      deliver 14 ∷ deliver 32 ∷ deliver 50 ∷ deliver 41 ∷ deliver 51 ∷ deliver 54 ∷ deliver 25 ∷ deliver 33 ∷ tick 3 ∷ tick 0 ∷ tick 4 ∷ tick 12 ∷
      deliver 61 ∷ deliver 57 ∷ deliver 44 ∷ deliver 52 ∷ deliver 66 ∷ deliver 65 ∷ deliver 67 ∷ deliver 48 ∷ deliver 71 ∷ deliver 45 ∷ tick 9 ∷
      deliver 35 ∷ deliver 47 ∷ deliver 63 ∷ deliver 64 ∷ tick 11 ∷ tick 8 ∷ deliver 37 ∷ deliver 74 ∷ deliver 55 ∷ deliver 21 ∷ deliver 72 ∷ deliver 60 ∷
      deliver 12 ∷ deliver 43 ∷ deliver 27 ∷ tick 6 ∷ tick 7 ∷ deliver 80 ∷ deliver 53 ∷ deliver 76 ∷ deliver 83 ∷ deliver 84 ∷ deliver 49 ∷ deliver 75 ∷
      deliver 85 ∷ deliver 38 ∷ deliver 78 ∷ deliver 79 ∷ deliver 58 ∷ deliver 68 ∷ deliver 82 ∷ deliver 42 ∷ deliver 77 ∷ deliver 59 ∷ deliver 69 ∷
      deliver 87 ∷ deliver 81 ∷ deliver 86 ∷ deliver 88 ∷ deliver 90 ∷ deliver 91 ∷ deliver 70 ∷ deliver 62 ∷ deliver 93 ∷ deliver 31 ∷ deliver 73 ∷
      deliver 92 ∷ deliver 94 ∷ deliver 95 ∷ deliver 89 ∷ deliver 56 ∷ deliver 96 ∷ deliver 97 ∷ deliver 99 ∷ deliver 100 ∷ deliver 101 ∷ deliver 102 ∷
      deliver 98 ∷ deliver 104 ∷ deliver 103 ∷ deliver 105 ∷ deliver 106 ∷ deliver 107 ∷ deliver 108 ∷ deliver 109 ∷ deliver 110 ∷ deliver 111 ∷
      deliver 112 ∷ deliver 113 ∷ [];
  second =
      tick 15 ∷ tick 7 ∷ tick 10 ∷ tick 13 ∷ tick 1 ∷ tick 14 ∷ tick 12 ∷ tick 5 ∷ tick 2 ∷ tick 4 ∷ tick 8 ∷ tick 0 ∷ tick 9 ∷ tick 3 ∷ tick 11 ∷ tick 6 ∷ [];
}

abbrev pub sixth_left : Unfinished
sixth_left = record { on_their_way = 23; pending = 10; running = 2; waiting = 3; calls = 8; purges = 0 }

abbrev pub sixth_turned_away : Unfinished
sixth_turned_away = record { on_their_way = 0; pending = 0; running = 0; waiting = 0; calls = 0; purges = 0 }
