-- Sites that hold no more copies than they have frames.
use Rattle.std.specs.Prelude.{List, [], ◌∷◌}
use Rattle.shm_laws.specs.Rows.Script.{Line, ask, clear, cleared, hand, page, confirm}
use Rattle.shm_laws.specs.Rows.Words.{◌▸◌, ◌⟫◌, book, byte, copy, deliver, dropped, fault, idle, load, nil, own_read, reading, repeat, restart, show, store, stored, to, took}

-- the second copy drops the first, whose site still answers the Clear
abbrev pub frames : List Line
frames =
    store 0 0 0 5 ▸ stored
    ∷ load 1 0 0 ▸ fault ⟫ to 0 ask
    ∷ deliver 0 ▸ took ⟫ to 0 hand
    ∷ deliver 1 ▸ took ⟫ to 1 page
    ∷ deliver 2 ▸ took ⟫ to 0 confirm
    ∷ deliver 3 ▸ took
    ∷ load 1 0 8192 ▸ fault ⟫ to 0 ask
    ∷ deliver 4 ▸ took ⟫ to 0 hand
    ∷ deliver 5 ▸ took ⟫ to 1 page
    ∷ deliver 6 ▸ took ⟫ to 0 confirm
    ∷ show 0 0 (own_read 1 ∷ nil 1 ∷ []) (book 0 (1 ∷ []) 1 idle)
    ∷ load 1 0 0 ▸ fault ⟫ to 0 ask
    ∷ store 0 0 0 6 ▸ fault ⟫ to 0 ask
    ∷ deliver 9 ▸ took ⟫ to 1 clear
    ∷ deliver 10 ▸ took ⟫ to 0 cleared
    ∷ deliver 11 ▸ took ⟫ to 0 hand
    ∷ deliver 12 ▸ took ⟫ to 0 confirm
    ∷ store 0 0 0 6 ▸ stored
    ∷ deliver 13 ▸ took
    ∷ deliver 8 ▸ took ⟫ to 0 hand
    ∷ deliver 14 ▸ took ⟫ to 1 page
    ∷ deliver 15 ▸ took ⟫ to 0 confirm
    ∷ load 1 0 0 ▸ byte 6
    ∷ []

-- a copy that comes anew is the last to go
abbrev pub copy_again : List Line
copy_again =
    load 1 0 0 ▸ fault ⟫ to 0 ask
    ∷ restart 1 ▸ took
    ∷ load 1 0 0 ▸ fault ⟫ to 0 ask
    ∷ deliver 0 ▸ took ⟫ to 0 hand
    ∷ deliver 2 ▸ took ⟫ to 1 page
    ∷ deliver 3 ▸ took ⟫ to 0 confirm
    ∷ load 1 0 8192 ▸ fault ⟫ to 0 ask
    ∷ deliver 5 ▸ took ⟫ to 0 hand
    ∷ deliver 6 ▸ took ⟫ to 1 page
    ∷ deliver 7 ▸ took ⟫ to 0 confirm
    ∷ deliver 1 ▸ took
    ∷ deliver 4 ▸ took ⟫ to 0 hand
    ∷ deliver 9 ▸ took ⟫ to 1 page
    ∷ deliver 10 ▸ took ⟫ to 0 confirm
    ∷ load 1 0 16384 ▸ fault ⟫ to 0 ask
    ∷ deliver 12 ▸ took ⟫ to 0 hand
    ∷ deliver 13 ▸ took ⟫ to 1 page
    ∷ deliver 14 ▸ took ⟫ to 0 confirm
    ∷ show 0 0 (own_read 2 ∷ copy 2 ∷ []) (book 0 (1 ∷ []) 2 (reading 1))
    ∷ show 0 2 (own_read 1 ∷ nil 1 ∷ []) (book 0 [] 1 (reading 1))
    ∷ show 0 4 (own_read 1 ∷ copy 1 ∷ []) (book 0 [] 1 (reading 1))
    ∷ []

-- a dropped copy keeps the number that it met: an old Page is dropped
abbrev pub dropped_copy : List Line
dropped_copy =
    load 1 0 0 ▸ fault ⟫ to 0 ask
    ∷ deliver 0 ▸ took ⟫ to 0 hand
    ∷ deliver 1 ▸ took ⟫ to 1 page
    ∷ repeat 2 ▸ took ⟫ to 0 confirm
    ∷ deliver 3 ▸ took
    ∷ store 0 0 0 5 ▸ fault ⟫ to 0 ask
    ∷ deliver 4 ▸ took ⟫ to 1 clear
    ∷ deliver 5 ▸ took ⟫ to 0 cleared
    ∷ deliver 6 ▸ took ⟫ to 0 hand
    ∷ deliver 7 ▸ took ⟫ to 0 confirm
    ∷ deliver 8 ▸ took
    ∷ store 0 0 0 5 ▸ stored
    ∷ load 1 0 0 ▸ fault ⟫ to 0 ask
    ∷ deliver 9 ▸ took ⟫ to 0 hand
    ∷ deliver 10 ▸ took ⟫ to 1 page
    ∷ deliver 11 ▸ took ⟫ to 0 confirm
    ∷ deliver 12 ▸ took
    ∷ load 1 0 8192 ▸ fault ⟫ to 0 ask
    ∷ deliver 13 ▸ took ⟫ to 0 hand
    ∷ deliver 14 ▸ took ⟫ to 1 page
    ∷ deliver 15 ▸ took ⟫ to 0 confirm
    ∷ show 0 0 (own_read 3 ∷ nil 3 ∷ []) (book 0 (1 ∷ []) 3 idle)
    ∷ deliver 2 ▸ dropped
    ∷ load 1 0 0 ▸ fault ⟫ to 0 ask
    ∷ []
