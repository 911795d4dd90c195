-- Random schedules; what they leave unfinished comes from an independent program.
use Rattle.std.specs.Prelude.{[], ◌∷◌}
use Rattle.shm_model.specs.World.{Preset}
use Rattle.shm_laws.specs.Rows.Words.{deliver, load, lose, repeat, restart, store, tick}
use Rattle.shm_progress.specs.Schedule.{Schedule, Unfinished}

-- 16 sites, 1 page; 60 events, then rounds of 55 and 16
abbrev pub first : Schedule
first = record {
  opening = Preset 16 1;
  faulty =
      load 1 0 4 ∷ deliver 0 ∷ tick 11 ∷ store 13 0 3 139 ∷ deliver 1 ∷ deliver 3 ∷ deliver 2 ∷ repeat 4 ∷ tick 11 ∷ lose 5 ∷ deliver 4 ∷ store 1 0 1 52 ∷
      repeat 6 ∷ deliver 6 ∷ store 7 0 5 78 ∷ load 8 0 1 ∷ load 0 0 3 ∷ store 12 0 5 75 ∷ store 13 0 2 102 ∷ store 14 0 7 98 ∷ lose 10 ∷ deliver 9 ∷
      lose 7 ∷ load 5 0 7 ∷ deliver 11 ∷ deliver 8 ∷ store 13 0 4 108 ∷ load 15 0 7 ∷ store 11 0 5 249 ∷ restart 12 ∷ deliver 13 ∷ store 9 0 2 160 ∷
      deliver 12 ∷ store 11 0 5 128 ∷ repeat 14 ∷ restart 4 ∷ tick 0 ∷ deliver 15 ∷ store 4 0 5 63 ∷ deliver 14 ∷ load 15 0 0 ∷ restart 0 ∷ deliver 16 ∷
      deliver 17 ∷ store 15 0 7 203 ∷ deliver 18 ∷ restart 14 ∷ deliver 20 ∷ deliver 21 ∷ deliver 19 ∷ repeat 22 ∷ tick 9 ∷ store 8 0 4 111 ∷ deliver 24 ∷
      load 5 0 0 ∷ store 10 0 6 41 ∷ deliver 22 ∷ load 4 0 1 ∷ deliver 23 ∷ store 4 0 4 218 ∷ [];
  first =
      tick 12 ∷ tick 15 ∷ deliver 28 ∷ tick 3 ∷ deliver 30 ∷ deliver 26 ∷ deliver 29 ∷ tick 13 ∷ tick 11 ∷ tick 9 ∷ deliver 27 ∷ deliver 25 ∷ tick 2 ∷
      deliver 31 ∷ tick 6 ∷ deliver 32 ∷ deliver 33 ∷ tick 10 ∷ tick 8 ∷ deliver 36 ∷ deliver 35 ∷ tick 7 ∷ tick 1 ∷ deliver 34 ∷ tick 0 ∷ deliver 37 ∷
      deliver 40 ∷ deliver 38 ∷ deliver 39 ∷ deliver 42 ∷ deliver 43 ∷ tick 5 ∷ tick 4 ∷ deliver 45 ∷ deliver 41 ∷ tick 14 ∷ deliver 44 ∷ deliver 47 ∷
      deliver 48 ∷ deliver 46 ∷ deliver 49 ∷ deliver 50 ∷ deliver 51 ∷ deliver 52 ∷ deliver 53 ∷ deliver 54 ∷ deliver 55 ∷ deliver 56 ∷ deliver 57 ∷
      deliver 58 ∷ deliver 59 ∷ deliver 60 ∷ deliver 61 ∷ deliver 62 ∷ deliver 63 ∷ [];
  second =
      tick 2 ∷ tick 7 ∷ tick 0 ∷ tick 14 ∷ tick 4 ∷ tick 1 ∷ tick 9 ∷ tick 11 ∷ tick 3 ∷ tick 10 ∷ tick 6 ∷ tick 12 ∷ tick 5 ∷ tick 13 ∷ tick 8 ∷ tick 15 ∷ [];
}

abbrev pub first_left : Unfinished
first_left = record { on_their_way = 4; pending = 8; running = 1; waiting = 2; calls = 0; purges = 0 }

abbrev pub first_turned_away : Unfinished
first_turned_away = record { on_their_way = 0; pending = 0; running = 0; waiting = 0; calls = 0; purges = 0 }

-- 16 sites, 2 pages; 60 events, then rounds of 164 and 16
abbrev pub second : Schedule
second = record {
  opening = Preset 16 2;
  faulty =
      load 4 0 4103 ∷ store 7 0 4096 93 ∷ store 6 0 4 7 ∷ repeat 1 ∷ lose 1 ∷ store 10 0 4097 130 ∷ load 9 0 4097 ∷ load 13 0 4099 ∷ store 8 0 4 12 ∷
      load 10 0 4103 ∷ deliver 0 ∷ load 5 0 4100 ∷ lose 4 ∷ deliver 3 ∷ restart 3 ∷ repeat 9 ∷ store 10 0 1 75 ∷ deliver 2 ∷ load 0 0 4101 ∷
      store 9 0 4097 229 ∷ deliver 7 ∷ load 0 0 5 ∷ deliver 11 ∷ lose 12 ∷ tick 3 ∷ deliver 6 ∷ deliver 8 ∷ store 1 0 2 150 ∷ store 13 0 4 52 ∷ deliver 9 ∷
      deliver 14 ∷ load 6 0 6 ∷ load 7 0 3 ∷ store 12 0 4097 168 ∷ deliver 5 ∷ deliver 10 ∷ deliver 20 ∷ deliver 15 ∷ store 6 0 4102 176 ∷ lose 17 ∷
      tick 15 ∷ store 12 0 0 33 ∷ lose 18 ∷ deliver 13 ∷ repeat 22 ∷ deliver 22 ∷ tick 6 ∷ lose 19 ∷ tick 0 ∷ deliver 23 ∷ store 1 0 4099 52 ∷
      load 0 0 4103 ∷ deliver 16 ∷ deliver 25 ∷ deliver 24 ∷ store 11 0 4 22 ∷ tick 14 ∷ store 7 0 4102 220 ∷ tick 3 ∷ store 13 0 4102 199 ∷ [];
  first =
      tick 14 ∷ tick 1 ∷ tick 10 ∷ deliver 26 ∷ deliver 35 ∷ tick 3 ∷ deliver 31 ∷ tick 13 ∷ tick 4 ∷ deliver 36 ∷ deliver 38 ∷ deliver 34 ∷ deliver 28 ∷
      deliver 33 ∷ tick 7 ∷ deliver 29 ∷ deliver 32 ∷ deliver 27 ∷ deliver 37 ∷ deliver 30 ∷ tick 6 ∷ load 3 0 5 ∷ deliver 39 ∷ deliver 40 ∷ deliver 43 ∷
      deliver 45 ∷ deliver 46 ∷ deliver 41 ∷ tick 15 ∷ deliver 47 ∷ deliver 48 ∷ tick 8 ∷ deliver 44 ∷ deliver 51 ∷ deliver 50 ∷ tick 11 ∷ deliver 49 ∷
      tick 9 ∷ tick 2 ∷ deliver 54 ∷ tick 0 ∷ tick 12 ∷ tick 5 ∷ deliver 61 ∷ deliver 59 ∷ deliver 60 ∷ deliver 42 ∷ deliver 53 ∷ deliver 55 ∷ deliver 56 ∷
      deliver 52 ∷ deliver 62 ∷ deliver 21 ∷ deliver 57 ∷ deliver 63 ∷ deliver 64 ∷ deliver 66 ∷ deliver 58 ∷ deliver 67 ∷ deliver 69 ∷ deliver 72 ∷
      deliver 71 ∷ deliver 73 ∷ deliver 65 ∷ deliver 74 ∷ load 5 0 1 ∷ deliver 68 ∷ deliver 76 ∷ load 12 0 7 ∷ deliver 77 ∷ deliver 70 ∷ deliver 78 ∷
      deliver 80 ∷ deliver 79 ∷ deliver 75 ∷ deliver 81 ∷ deliver 83 ∷ deliver 84 ∷ deliver 85 ∷ deliver 82 ∷ deliver 87 ∷ deliver 86 ∷ deliver 89 ∷
      deliver 90 ∷ deliver 88 ∷ deliver 92 ∷ deliver 91 ∷ store 4 0 5 30 ∷ deliver 95 ∷ deliver 93 ∷ deliver 96 ∷ deliver 94 ∷ deliver 97 ∷ load 11 0 3 ∷
      deliver 99 ∷ deliver 100 ∷ deliver 101 ∷ store 2 0 4103 221 ∷ deliver 103 ∷ deliver 98 ∷ deliver 104 ∷ deliver 102 ∷ store 10 0 4100 105 ∷
      deliver 106 ∷ deliver 105 ∷ deliver 107 ∷ store 4 0 4100 81 ∷ deliver 108 ∷ deliver 111 ∷ deliver 110 ∷ deliver 112 ∷ deliver 113 ∷ load 2 0 2 ∷
      deliver 109 ∷ deliver 115 ∷ deliver 114 ∷ deliver 116 ∷ deliver 117 ∷ deliver 118 ∷ deliver 120 ∷ deliver 122 ∷ store 11 0 4101 42 ∷ deliver 121 ∷
      deliver 119 ∷ deliver 123 ∷ deliver 126 ∷ deliver 127 ∷ deliver 125 ∷ deliver 124 ∷ deliver 129 ∷ deliver 130 ∷ deliver 131 ∷ deliver 132 ∷
      deliver 128 ∷ deliver 134 ∷ deliver 133 ∷ deliver 135 ∷ deliver 137 ∷ deliver 136 ∷ deliver 138 ∷ deliver 139 ∷ deliver 140 ∷ store 9 0 3 188 ∷
      deliver 142 ∷ deliver 143 ∷ deliver 144 ∷ deliver 145 ∷ deliver 146 ∷ deliver 147 ∷ deliver 141 ∷ load 3 0 4099 ∷ deliver 148 ∷ deliver 150 ∷
      deliver 149 ∷ deliver 151 ∷ deliver 152 ∷ deliver 153 ∷ deliver 154 ∷ deliver 155 ∷ deliver 156 ∷ deliver 157 ∷ deliver 158 ∷ deliver 159 ∷
      deliver 160 ∷ [];
  second =
      tick 11 ∷ tick 4 ∷ tick 9 ∷ tick 5 ∷ tick 8 ∷ tick 0 ∷ tick 15 ∷ tick 2 ∷ tick 12 ∷ tick 14 ∷ tick 1 ∷ tick 3 ∷ tick 6 ∷ tick 10 ∷ tick 13 ∷ tick 7 ∷ [];
}

abbrev pub second_left : Unfinished
second_left = record { on_their_way = 7; pending = 18; running = 2; waiting = 11; calls = 0; purges = 0 }

abbrev pub second_turned_away : Unfinished
second_turned_away = record { on_their_way = 0; pending = 0; running = 0; waiting = 0; calls = 0; purges = 0 }
