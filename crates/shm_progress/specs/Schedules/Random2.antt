-- Random schedules; what they leave unfinished comes from an independent program.
use Rattle.std.specs.Prelude.{[], ◌∷◌}
use Rattle.shm_model.specs.World.{Framed, Preset}
use Rattle.shm_laws.specs.Rows.Words.{deliver, load, lose, repeat, restart, store, tick}
use Rattle.shm_progress.specs.Schedule.{Schedule, Unfinished}

-- 16 sites, 2 pages; 60 events, then rounds of 159 and 16
abbrev pub third : Schedule
third = record {
  opening = Preset 16 2;
  faulty =
      load 1 0 3 ∷ load 0 0 6 ∷ deliver 0 ∷ deliver 1 ∷ load 13 0 4 ∷ restart 3 ∷ deliver 2 ∷ tick 2 ∷ load 10 0 0 ∷ store 2 0 2 10 ∷ deliver 4 ∷
      store 9 0 4103 219 ∷ repeat 5 ∷ store 15 0 4101 51 ∷ load 7 0 4097 ∷ restart 9 ∷ load 12 0 4100 ∷ deliver 10 ∷ store 6 0 0 42 ∷ store 5 0 4101 232 ∷
      load 13 0 4102 ∷ store 3 0 1 135 ∷ load 2 0 4098 ∷ restart 10 ∷ store 10 0 4101 1 ∷ deliver 12 ∷ load 5 0 2 ∷ deliver 5 ∷ load 4 0 4103 ∷
      store 2 0 7 121 ∷ deliver 20 ∷ load 14 0 0 ∷ store 13 0 5 251 ∷ tick 6 ∷ deliver 17 ∷ deliver 13 ∷ load 12 0 5 ∷ store 9 0 4101 246 ∷ load 15 0 3 ∷
      tick 9 ∷ store 11 0 4101 51 ∷ deliver 26 ∷ deliver 7 ∷ store 3 0 4102 212 ∷ load 13 0 4100 ∷ store 7 0 4099 153 ∷ deliver 15 ∷ store 2 0 6 200 ∷
      deliver 25 ∷ tick 4 ∷ load 3 0 4097 ∷ repeat 21 ∷ tick 2 ∷ store 1 0 5 22 ∷ repeat 34 ∷ lose 8 ∷ lose 6 ∷ deliver 24 ∷ store 3 0 4097 157 ∷
      load 4 0 4102 ∷ [];
  first =
      tick 2 ∷ tick 1 ∷ tick 8 ∷ deliver 21 ∷ deliver 18 ∷ deliver 33 ∷ deliver 32 ∷ deliver 30 ∷ deliver 37 ∷ deliver 39 ∷ tick 3 ∷ deliver 27 ∷
      deliver 42 ∷ deliver 22 ∷ deliver 16 ∷ deliver 9 ∷ tick 14 ∷ deliver 23 ∷ deliver 36 ∷ deliver 3 ∷ tick 4 ∷ tick 15 ∷ deliver 41 ∷ deliver 31 ∷
      tick 5 ∷ deliver 34 ∷ tick 12 ∷ deliver 40 ∷ deliver 47 ∷ deliver 48 ∷ tick 0 ∷ deliver 52 ∷ tick 6 ∷ deliver 54 ∷ deliver 29 ∷ tick 13 ∷
      load 8 0 4100 ∷ deliver 56 ∷ deliver 57 ∷ deliver 19 ∷ deliver 43 ∷ deliver 44 ∷ deliver 50 ∷ deliver 28 ∷ tick 11 ∷ deliver 45 ∷ deliver 46 ∷
      deliver 14 ∷ load 10 0 4099 ∷ deliver 38 ∷ deliver 11 ∷ tick 10 ∷ tick 7 ∷ deliver 49 ∷ tick 9 ∷ deliver 60 ∷ deliver 61 ∷ deliver 35 ∷ deliver 62 ∷
      deliver 55 ∷ deliver 59 ∷ deliver 53 ∷ deliver 63 ∷ deliver 51 ∷ deliver 64 ∷ deliver 58 ∷ deliver 66 ∷ deliver 67 ∷ deliver 69 ∷ deliver 71 ∷
      deliver 70 ∷ deliver 72 ∷ deliver 65 ∷ deliver 73 ∷ deliver 74 ∷ deliver 68 ∷ deliver 77 ∷ deliver 78 ∷ deliver 76 ∷ deliver 79 ∷ deliver 81 ∷
      deliver 75 ∷ deliver 82 ∷ deliver 80 ∷ deliver 83 ∷ deliver 84 ∷ deliver 85 ∷ deliver 87 ∷ deliver 88 ∷ deliver 86 ∷ deliver 90 ∷ deliver 91 ∷
      deliver 92 ∷ deliver 93 ∷ deliver 94 ∷ deliver 89 ∷ deliver 95 ∷ store 11 0 5 225 ∷ deliver 98 ∷ deliver 96 ∷ deliver 99 ∷ deliver 97 ∷ deliver 100 ∷
      deliver 102 ∷ deliver 103 ∷ deliver 105 ∷ deliver 104 ∷ deliver 106 ∷ deliver 101 ∷ deliver 108 ∷ deliver 107 ∷ deliver 109 ∷ deliver 111 ∷
      deliver 113 ∷ deliver 114 ∷ deliver 110 ∷ deliver 112 ∷ deliver 116 ∷ deliver 117 ∷ deliver 118 ∷ deliver 119 ∷ deliver 120 ∷ deliver 115 ∷
      deliver 122 ∷ deliver 121 ∷ deliver 124 ∷ deliver 123 ∷ deliver 125 ∷ deliver 127 ∷ deliver 128 ∷ deliver 126 ∷ deliver 130 ∷ deliver 129 ∷
      deliver 132 ∷ deliver 133 ∷ store 3 0 4100 126 ∷ deliver 131 ∷ deliver 134 ∷ deliver 135 ∷ deliver 136 ∷ deliver 137 ∷ deliver 138 ∷
      store 14 0 6 172 ∷ deliver 140 ∷ deliver 141 ∷ deliver 142 ∷ deliver 139 ∷ deliver 143 ∷ deliver 144 ∷ deliver 145 ∷ deliver 146 ∷ deliver 147 ∷
      deliver 148 ∷ deliver 149 ∷ deliver 150 ∷ deliver 151 ∷ deliver 152 ∷ deliver 153 ∷ deliver 154 ∷ [];
  second =
      tick 2 ∷ tick 13 ∷ tick 12 ∷ tick 15 ∷ tick 10 ∷ tick 14 ∷ tick 7 ∷ tick 4 ∷ tick 6 ∷ tick 0 ∷ tick 3 ∷ tick 11 ∷ tick 9 ∷ tick 1 ∷ tick 8 ∷ tick 5 ∷ [];
}

abbrev pub third_left : Unfinished
third_left = record { on_their_way = 19; pending = 20; running = 2; waiting = 8; calls = 0; purges = 0 }

abbrev pub third_turned_away : Unfinished
third_turned_away = record { on_their_way = 0; pending = 0; running = 0; waiting = 0; calls = 0; purges = 0 }

-- 16 sites, 3 pages, 1 frame; 60 events, then rounds of 167 and 16
abbrev pub fourth : Schedule
fourth = record {
  opening = Framed 16 3 1;
  faulty =
      store 14 0 8192 64 ∷ deliver 0 ∷ store 3 0 6 4 ∷ deliver 2 ∷ load 2 0 4098 ∷ deliver 1 ∷ store 6 0 3 43 ∷ repeat 5 ∷ store 5 0 8195 177 ∷
      load 0 0 4100 ∷ store 9 0 5 151 ∷ load 9 0 4097 ∷ store 15 0 7 15 ∷ load 12 0 8197 ∷ lose 8 ∷ store 5 0 4096 245 ∷ store 11 0 4101 65 ∷ lose 4 ∷
      deliver 10 ∷ repeat 3 ∷ deliver 5 ∷ load 10 0 4098 ∷ deliver 6 ∷ store 4 0 1 80 ∷ tick 5 ∷ deliver 7 ∷ tick 12 ∷ store 14 0 4100 38 ∷
      store 10 0 7 34 ∷ tick 4 ∷ deliver 22 ∷ load 13 0 0 ∷ deliver 14 ∷ tick 14 ∷ tick 10 ∷ deliver 19 ∷ deliver 13 ∷ store 15 0 8194 47 ∷
      store 2 0 8197 199 ∷ store 11 0 4 172 ∷ store 10 0 8196 149 ∷ repeat 28 ∷ deliver 20 ∷ load 11 0 4101 ∷ store 5 0 4101 177 ∷ deliver 25 ∷ tick 4 ∷
      deliver 16 ∷ store 2 0 4100 187 ∷ store 9 0 8198 199 ∷ repeat 23 ∷ deliver 3 ∷ store 7 0 8194 47 ∷ deliver 11 ∷ tick 7 ∷ load 5 0 5 ∷ deliver 31 ∷
      deliver 30 ∷ deliver 15 ∷ deliver 26 ∷ [];
  first =
      tick 11 ∷ deliver 21 ∷ deliver 43 ∷ deliver 24 ∷ deliver 28 ∷ deliver 36 ∷ deliver 38 ∷ deliver 47 ∷ tick 0 ∷ deliver 40 ∷ tick 5 ∷ deliver 39 ∷
      deliver 27 ∷ tick 6 ∷ deliver 44 ∷ load 9 0 4103 ∷ load 7 0 8199 ∷ deliver 9 ∷ deliver 34 ∷ deliver 35 ∷ deliver 42 ∷ deliver 52 ∷ deliver 23 ∷
      store 9 0 4 87 ∷ deliver 12 ∷ deliver 33 ∷ store 3 0 4103 140 ∷ deliver 54 ∷ deliver 57 ∷ deliver 46 ∷ deliver 32 ∷ deliver 56 ∷ deliver 55 ∷
      deliver 53 ∷ deliver 29 ∷ deliver 50 ∷ deliver 49 ∷ deliver 18 ∷ tick 4 ∷ tick 12 ∷ tick 1 ∷ tick 8 ∷ deliver 37 ∷ tick 13 ∷ deliver 64 ∷
      deliver 60 ∷ deliver 59 ∷ tick 14 ∷ deliver 66 ∷ tick 15 ∷ deliver 68 ∷ deliver 17 ∷ tick 7 ∷ deliver 69 ∷ tick 2 ∷ tick 10 ∷ deliver 77 ∷ tick 9 ∷
      tick 3 ∷ deliver 67 ∷ deliver 58 ∷ deliver 73 ∷ deliver 75 ∷ deliver 41 ∷ deliver 51 ∷ deliver 48 ∷ deliver 61 ∷ deliver 74 ∷ deliver 76 ∷
      deliver 71 ∷ deliver 80 ∷ store 1 0 8198 242 ∷ deliver 83 ∷ deliver 85 ∷ deliver 84 ∷ deliver 65 ∷ deliver 86 ∷ deliver 70 ∷ deliver 88 ∷
      deliver 81 ∷ deliver 79 ∷ deliver 87 ∷ deliver 82 ∷ deliver 72 ∷ deliver 78 ∷ deliver 45 ∷ load 1 0 3 ∷ deliver 92 ∷ deliver 62 ∷ deliver 90 ∷
      deliver 94 ∷ deliver 91 ∷ deliver 63 ∷ deliver 93 ∷ deliver 97 ∷ deliver 95 ∷ deliver 96 ∷ deliver 89 ∷ deliver 100 ∷ deliver 99 ∷ deliver 101 ∷
      deliver 102 ∷ deliver 98 ∷ deliver 105 ∷ deliver 103 ∷ deliver 107 ∷ deliver 106 ∷ deliver 109 ∷ deliver 104 ∷ deliver 108 ∷ deliver 110 ∷
      deliver 113 ∷ deliver 112 ∷ deliver 115 ∷ deliver 117 ∷ deliver 114 ∷ deliver 111 ∷ deliver 119 ∷ deliver 120 ∷ deliver 116 ∷ deliver 121 ∷
      deliver 122 ∷ deliver 118 ∷ deliver 125 ∷ deliver 123 ∷ deliver 124 ∷ deliver 127 ∷ deliver 128 ∷ deliver 126 ∷ deliver 132 ∷ deliver 129 ∷
      deliver 134 ∷ deliver 130 ∷ deliver 133 ∷ deliver 136 ∷ deliver 131 ∷ deliver 135 ∷ deliver 137 ∷ deliver 138 ∷ deliver 141 ∷ deliver 139 ∷
      deliver 142 ∷ deliver 144 ∷ deliver 145 ∷ deliver 146 ∷ store 7 0 4103 36 ∷ deliver 140 ∷ deliver 148 ∷ deliver 147 ∷ deliver 143 ∷ deliver 149 ∷
      deliver 150 ∷ deliver 152 ∷ deliver 151 ∷ deliver 154 ∷ deliver 153 ∷ deliver 156 ∷ deliver 155 ∷ deliver 157 ∷ deliver 159 ∷ deliver 158 ∷
      deliver 161 ∷ deliver 162 ∷ deliver 163 ∷ deliver 160 ∷ deliver 165 ∷ deliver 164 ∷ [];
  second =
      tick 1 ∷ tick 15 ∷ tick 8 ∷ tick 12 ∷ tick 11 ∷ tick 13 ∷ tick 0 ∷ tick 9 ∷ tick 14 ∷ tick 10 ∷ tick 7 ∷ tick 2 ∷ tick 3 ∷ tick 5 ∷ tick 6 ∷ tick 4 ∷ [];
}

abbrev pub fourth_left : Unfinished
fourth_left = record { on_their_way = 24; pending = 22; running = 3; waiting = 9; calls = 0; purges = 0 }

abbrev pub fourth_turned_away : Unfinished
fourth_turned_away = record { on_their_way = 0; pending = 0; running = 0; waiting = 0; calls = 0; purges = 0 }
