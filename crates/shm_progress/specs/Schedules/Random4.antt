-- Random schedules; what they leave unfinished comes from an independent program.
use Rattle.std.specs.Prelude.{[], ◌∷◌}
use Rattle.shm_model.specs.World.{Preset}
use Rattle.shm_laws.specs.Rows.Words.{deliver, load, restart, store, tick}
use Rattle.shm_progress.specs.Schedule.{Schedule, Unfinished}

-- 16 sites, 1 page; 70 events, then rounds of 104 and 24
abbrev pub seventh : Schedule
seventh = record {
  opening = Preset 16 1;
  faulty =
      load 4 0 7 ∷ store 7 0 0 93 ∷ store 6 0 4 7 ∷ deliver 1 ∷ deliver 0 ∷ store 10 0 1 130 ∷ load 9 0 1 ∷ load 13 0 3 ∷ store 8 0 4 12 ∷ load 10 0 7 ∷
      load 8 0 7 ∷ store 3 0 5 182 ∷ store 10 0 1 75 ∷ load 10 0 4 ∷ store 9 0 1 229 ∷ store 10 0 2 94 ∷ load 3 0 4 ∷ load 1 0 0 ∷ store 15 0 0 83 ∷
      tick 3 ∷ deliver 6 ∷ deliver 9 ∷ load 14 0 3 ∷ load 6 0 6 ∷ load 7 0 3 ∷ store 12 0 1 168 ∷ load 12 0 7 ∷ store 9 0 5 205 ∷ tick 10 ∷ deliver 12 ∷
      store 12 0 5 20 ∷ deliver 7 ∷ tick 6 ∷ store 1 0 4 177 ∷ store 6 0 6 55 ∷ tick 0 ∷ store 7 0 6 225 ∷ tick 5 ∷ load 0 0 7 ∷ load 1 0 2 ∷ deliver 14 ∷
      tick 9 ∷ deliver 3 ∷ load 9 0 3 ∷ deliver 13 ∷ store 13 0 6 199 ∷ load 15 0 4 ∷ deliver 5 ∷ store 15 0 5 67 ∷ load 9 0 0 ∷ load 7 0 1 ∷
      store 1 0 0 81 ∷ load 14 0 7 ∷ load 13 0 2 ∷ load 11 0 4 ∷ deliver 20 ∷ store 10 0 2 84 ∷ store 11 0 1 245 ∷ load 3 0 1 ∷ store 12 0 4 61 ∷
      restart 7 ∷ store 12 0 7 249 ∷ deliver 11 ∷ store 14 0 2 158 ∷ deliver 17 ∷ tick 0 ∷ store 2 0 4 124 ∷ load 7 0 2 ∷ store 0 0 4 41 ∷ deliver 18 ∷ [];
  first =
      deliver 15 ∷ deliver 8 ∷ tick 1 ∷ tick 5 ∷ deliver 22 ∷ tick 15 ∷ deliver 19 ∷ deliver 26 ∷ deliver 32 ∷ deliver 10 ∷ deliver 25 ∷ deliver 23 ∷
      deliver 2 ∷ tick 13 ∷ deliver 16 ∷ tick 4 ∷ deliver 4 ∷ tick 0 ∷ deliver 33 ∷ deliver 35 ∷ tick 11 ∷ deliver 39 ∷ deliver 38 ∷ deliver 31 ∷ tick 2 ∷
      tick 8 ∷ deliver 28 ∷ tick 14 ∷ deliver 34 ∷ tick 3 ∷ deliver 37 ∷ deliver 21 ∷ deliver 30 ∷ tick 12 ∷ deliver 46 ∷ deliver 43 ∷ deliver 41 ∷
      deliver 27 ∷ deliver 36 ∷ deliver 45 ∷ deliver 24 ∷ deliver 44 ∷ deliver 42 ∷ deliver 29 ∷ deliver 47 ∷ deliver 40 ∷ tick 10 ∷ deliver 49 ∷
      deliver 48 ∷ deliver 50 ∷ deliver 51 ∷ tick 7 ∷ tick 9 ∷ tick 6 ∷ deliver 52 ∷ deliver 53 ∷ deliver 54 ∷ deliver 56 ∷ deliver 55 ∷ deliver 57 ∷
      deliver 58 ∷ deliver 59 ∷ deliver 60 ∷ deliver 61 ∷ deliver 62 ∷ deliver 63 ∷ deliver 64 ∷ deliver 65 ∷ deliver 66 ∷ deliver 67 ∷ deliver 68 ∷
      deliver 69 ∷ deliver 70 ∷ deliver 71 ∷ deliver 72 ∷ deliver 73 ∷ deliver 74 ∷ deliver 75 ∷ deliver 76 ∷ deliver 77 ∷ deliver 78 ∷ deliver 79 ∷
      deliver 80 ∷ deliver 81 ∷ deliver 82 ∷ deliver 83 ∷ deliver 84 ∷ deliver 85 ∷ deliver 86 ∷ deliver 87 ∷ deliver 88 ∷ deliver 89 ∷ deliver 90 ∷
      deliver 91 ∷ deliver 92 ∷ deliver 93 ∷ deliver 94 ∷ deliver 95 ∷ deliver 96 ∷ deliver 97 ∷ deliver 98 ∷ deliver 99 ∷ deliver 100 ∷ deliver 101 ∷ [];
  second =
      tick 10 ∷ tick 0 ∷ deliver 102 ∷ deliver 103 ∷ deliver 104 ∷ deliver 105 ∷ tick 7 ∷ tick 9 ∷ tick 3 ∷ tick 2 ∷ tick 1 ∷ tick 11 ∷ tick 12 ∷
      deliver 106 ∷ deliver 107 ∷ tick 14 ∷ tick 15 ∷ deliver 108 ∷ deliver 109 ∷ tick 5 ∷ tick 13 ∷ tick 4 ∷ tick 6 ∷ tick 8 ∷ [];
}

abbrev pub seventh_left : Unfinished
seventh_left = record { on_their_way = 16; pending = 14; running = 1; waiting = 10; calls = 0; purges = 0 }

abbrev pub seventh_turned_away : Unfinished
seventh_turned_away = record { on_their_way = 0; pending = 2; running = 0; waiting = 0; calls = 0; purges = 0 }

-- 16 sites, 1 page; 70 events, then rounds of 110 and 27
abbrev pub eighth : Schedule
eighth = record {
  opening = Preset 16 1;
  faulty =
      load 1 0 4 ∷ load 0 0 5 ∷ deliver 0 ∷ tick 3 ∷ load 13 0 1 ∷ store 3 0 7 180 ∷ load 11 0 3 ∷ deliver 2 ∷ store 7 0 5 78 ∷ load 8 0 1 ∷ load 0 0 3 ∷
      store 12 0 5 75 ∷ store 13 0 2 102 ∷ store 14 0 7 98 ∷ deliver 8 ∷ store 6 0 1 69 ∷ store 0 0 0 65 ∷ store 10 0 7 66 ∷ tick 13 ∷ load 15 0 7 ∷
      store 11 0 5 249 ∷ tick 12 ∷ store 5 0 7 75 ∷ store 0 0 2 146 ∷ store 1 0 7 40 ∷ tick 0 ∷ load 15 0 1 ∷ load 4 0 5 ∷ store 14 0 7 18 ∷
      store 5 0 1 234 ∷ store 0 0 7 36 ∷ deliver 9 ∷ tick 14 ∷ store 2 0 7 75 ∷ tick 9 ∷ store 8 0 4 111 ∷ store 7 0 3 9 ∷ deliver 14 ∷ store 10 0 6 41 ∷
      deliver 5 ∷ load 4 0 1 ∷ store 9 0 2 130 ∷ load 4 0 3 ∷ load 12 0 0 ∷ store 12 0 0 136 ∷ store 8 0 5 249 ∷ load 2 0 6 ∷ store 11 0 1 16 ∷
      load 2 0 4 ∷ deliver 3 ∷ load 5 0 1 ∷ tick 13 ∷ store 6 0 3 168 ∷ deliver 12 ∷ load 1 0 1 ∷ load 10 0 5 ∷ deliver 4 ∷ load 15 0 1 ∷ deliver 7 ∷
      load 4 0 2 ∷ store 15 0 6 65 ∷ store 3 0 7 148 ∷ load 3 0 2 ∷ load 12 0 3 ∷ tick 0 ∷ store 11 0 4 174 ∷ load 2 0 2 ∷ load 12 0 3 ∷ deliver 13 ∷
      store 10 0 5 152 ∷ [];
  first =
      deliver 10 ∷ tick 12 ∷ deliver 15 ∷ tick 13 ∷ tick 4 ∷ deliver 20 ∷ tick 10 ∷ tick 15 ∷ deliver 29 ∷ deliver 28 ∷ deliver 17 ∷ deliver 27 ∷ tick 1 ∷
      deliver 11 ∷ deliver 26 ∷ tick 14 ∷ tick 2 ∷ deliver 6 ∷ deliver 1 ∷ deliver 32 ∷ deliver 16 ∷ tick 0 ∷ deliver 19 ∷ deliver 34 ∷ tick 7 ∷
      deliver 25 ∷ tick 9 ∷ deliver 30 ∷ deliver 35 ∷ deliver 18 ∷ deliver 23 ∷ tick 5 ∷ deliver 21 ∷ deliver 31 ∷ deliver 40 ∷ tick 11 ∷ deliver 39 ∷
      deliver 43 ∷ deliver 33 ∷ deliver 38 ∷ deliver 44 ∷ tick 8 ∷ deliver 41 ∷ deliver 45 ∷ deliver 42 ∷ deliver 47 ∷ deliver 22 ∷ deliver 46 ∷
      deliver 37 ∷ tick 6 ∷ tick 3 ∷ deliver 24 ∷ deliver 48 ∷ deliver 50 ∷ deliver 36 ∷ deliver 49 ∷ deliver 52 ∷ deliver 51 ∷ deliver 53 ∷ deliver 54 ∷
      deliver 55 ∷ deliver 56 ∷ deliver 57 ∷ deliver 58 ∷ deliver 59 ∷ deliver 60 ∷ deliver 61 ∷ deliver 62 ∷ deliver 63 ∷ deliver 64 ∷ deliver 65 ∷
      deliver 66 ∷ deliver 67 ∷ deliver 68 ∷ deliver 69 ∷ deliver 70 ∷ deliver 71 ∷ deliver 72 ∷ deliver 73 ∷ deliver 74 ∷ deliver 75 ∷ deliver 76 ∷
      deliver 77 ∷ deliver 78 ∷ deliver 79 ∷ deliver 80 ∷ deliver 81 ∷ deliver 82 ∷ deliver 83 ∷ deliver 84 ∷ deliver 85 ∷ deliver 86 ∷ deliver 87 ∷
      deliver 88 ∷ deliver 89 ∷ deliver 90 ∷ deliver 91 ∷ deliver 92 ∷ deliver 93 ∷ deliver 94 ∷ deliver 95 ∷ deliver 96 ∷ deliver 97 ∷ deliver 98 ∷
      deliver 99 ∷ deliver 100 ∷ deliver 101 ∷ deliver 102 ∷ deliver 103 ∷ deliver 104 ∷ [];
  second =
      tick 11 ∷ tick 6 ∷ tick 14 ∷ tick 9 ∷ deliver 105 ∷ tick 15 ∷ deliver 106 ∷ tick 1 ∷ deliver 107 ∷ deliver 108 ∷ tick 10 ∷ tick 4 ∷ tick 7 ∷ tick 3 ∷
      tick 5 ∷ tick 2 ∷ deliver 109 ∷ tick 8 ∷ deliver 110 ∷ deliver 111 ∷ tick 0 ∷ tick 13 ∷ tick 12 ∷ deliver 113 ∷ deliver 114 ∷ deliver 115 ∷
      deliver 112 ∷ [];
}

abbrev pub eighth_left : Unfinished
eighth_left = record { on_their_way = 16; pending = 15; running = 1; waiting = 9; calls = 0; purges = 0 }

abbrev pub eighth_turned_away : Unfinished
eighth_turned_away = record { on_their_way = 0; pending = 2; running = 0; waiting = 0; calls = 0; purges = 0 }
