-- Messages that are lost or repeated, and sites that restart.
use Rattle.std.specs.Prelude.{List, [], ◌∷◌}
use Rattle.shm_laws.specs.Rows.Script.{Line, ask, clear, cleared, hand, page, confirm}
use Rattle.shm_laws.specs.Rows.Words.{◌▸◌, ◌⟫◌, ◌&◌, book, byte, copy, deliver, dropped, fault, handed, idle, load, lose, nil, own_read, own_write, reading, refused, repeat, restart, show, store, stored, tick, to, took, waiting}

-- a Page that comes again is confirmed and not installed again
abbrev pub repeated_page : List Line
repeated_page =
    store 1 0 0 4 ▸ fault ⟫ to 0 ask
    ∷ deliver 0 ▸ took ⟫ to 0 hand
    ∷ deliver 1 ▸ took ⟫ to 1 page
    ∷ repeat 2 ▸ took ⟫ to 0 confirm
    ∷ store 1 0 0 4 ▸ stored
    ∷ deliver 2 ▸ took ⟫ to 0 confirm
    ∷ load 1 0 0 ▸ byte 4
    ∷ deliver 3 ▸ took
    ∷ deliver 4 ▸ dropped
    ∷ []

-- a Page that comes again after its copy was cleared is dropped
abbrev pub stale_page_after_clear : List Line
stale_page_after_clear =
    load 1 0 0 ▸ fault ⟫ to 0 ask
    ∷ deliver 0 ▸ took ⟫ to 0 hand
    ∷ deliver 1 ▸ took ⟫ to 1 page
    ∷ repeat 2 ▸ took ⟫ to 0 confirm
    ∷ deliver 3 ▸ took
    ∷ store 0 0 0 8 ▸ fault ⟫ to 0 ask
    ∷ deliver 4 ▸ took ⟫ to 1 clear
    ∷ deliver 5 ▸ took ⟫ to 0 cleared
    ∷ deliver 6 ▸ took ⟫ to 0 hand
    ∷ deliver 7 ▸ took ⟫ to 0 confirm
    ∷ deliver 2 ▸ dropped
    ∷ load 1 0 0 ▸ fault ⟫ to 0 ask
    ∷ store 0 0 0 8 ▸ stored
    ∷ []

-- the Page that hands over was lost: the Hand is sent again, and the bytes are still there
abbrev pub lost_page : List Line
lost_page =
    store 0 0 255 200 ▸ stored
    ∷ store 1 0 0 1 ▸ fault ⟫ to 0 ask
    ∷ deliver 0 ▸ took ⟫ to 0 hand
    ∷ deliver 1 ▸ took ⟫ to 1 page
    ∷ lose 2 ▸ took
    ∷ tick 0 ▸ took ⟫ to 0 hand
    ∷ deliver 3 ▸ took ⟫ to 1 page
    ∷ deliver 4 ▸ took ⟫ to 0 confirm
    ∷ load 1 0 255 ▸ byte 200
    ∷ deliver 5 ▸ took
    ∷ []

-- an Ask that comes again is served once
abbrev pub repeated_ask : List Line
repeated_ask =
    load 1 0 0 ▸ fault ⟫ to 0 ask
    ∷ load 1 0 0 ▸ waiting
    ∷ repeat 0 ▸ took ⟫ to 0 hand
    ∷ deliver 0 ▸ dropped
    ∷ deliver 5 ▸ refused 15
    ∷ repeat 1 ▸ took ⟫ to 1 page
    ∷ deliver 1 ▸ took ⟫ to 1 page
    ∷ store 0 0 0 1 ▸ fault ⟫ to 0 ask
    ∷ []

-- a Hand that comes again sends the same Page again
abbrev pub repeated_hand : List Line
repeated_hand =
    store 1 0 0 4 ▸ fault ⟫ to 0 ask
    ∷ deliver 0 ▸ took ⟫ to 0 hand
    ∷ repeat 1 ▸ took ⟫ to 1 page
    ∷ deliver 1 ▸ took ⟫ to 1 page
    ∷ deliver 3 ▸ took ⟫ to 0 confirm
    ∷ store 1 0 0 4 ▸ stored
    ∷ deliver 2 ▸ took ⟫ to 0 confirm
    ∷ load 1 0 0 ▸ byte 4
    ∷ []

-- the reader restarts, asks anew, and gets what it asked for before
abbrev pub requester_restarts : List Line
requester_restarts =
    load 1 0 0 ▸ fault ⟫ to 0 ask
    ∷ deliver 0 ▸ took ⟫ to 0 hand
    ∷ deliver 1 ▸ took ⟫ to 1 page
    ∷ restart 1 ▸ took
    ∷ load 1 0 0 ▸ fault ⟫ to 0 ask
    ∷ deliver 2 ▸ took ⟫ to 0 confirm
    ∷ load 1 0 0 ▸ byte 0
    ∷ deliver 3 ▸ took
    ∷ deliver 4 ▸ took ⟫ to 0 hand
    ∷ deliver 5 ▸ took ⟫ to 1 page
    ∷ deliver 6 ▸ took ⟫ to 0 confirm
    ∷ deliver 7 ▸ took
    ∷ []

-- the manager forgets who answered its Clear, and asks both again
abbrev pub manager_restarts_while_clearing : List Line
manager_restarts_while_clearing =
    load 1 0 0 ▸ fault ⟫ to 0 ask
    ∷ deliver 0 ▸ took ⟫ to 0 hand
    ∷ deliver 1 ▸ took ⟫ to 1 page
    ∷ deliver 2 ▸ took ⟫ to 0 confirm
    ∷ deliver 3 ▸ took
    ∷ load 2 0 0 ▸ fault ⟫ to 0 ask
    ∷ deliver 4 ▸ took ⟫ to 0 hand
    ∷ deliver 5 ▸ took ⟫ to 2 page
    ∷ deliver 6 ▸ took ⟫ to 0 confirm
    ∷ deliver 7 ▸ took
    ∷ store 0 0 0 3 ▸ fault ⟫ to 0 ask
    ∷ deliver 8 ▸ took ⟫ to 1 clear & to 2 clear
    ∷ deliver 9 ▸ took ⟫ to 0 cleared
    ∷ deliver 11 ▸ took
    ∷ restart 0 ▸ took
    ∷ tick 0 ▸ took ⟫ to 1 clear & to 2 clear
    ∷ deliver 10 ▸ took ⟫ to 0 cleared
    ∷ deliver 12 ▸ took ⟫ to 0 cleared
    ∷ deliver 14 ▸ took
    ∷ deliver 15 ▸ took ⟫ to 0 hand
    ∷ deliver 16 ▸ took ⟫ to 0 confirm
    ∷ deliver 17 ▸ took
    ∷ deliver 13 ▸ took ⟫ to 0 cleared
    ∷ deliver 18 ▸ dropped
    ∷ store 0 0 0 3 ▸ stored
    ∷ load 1 0 0 ▸ fault ⟫ to 0 ask
    ∷ []

-- what a restart keeps: the bytes, the right, and the number met, so that an old Page is still dropped
abbrev pub readers_restart : List Line
readers_restart =
    store 0 0 0 5 ▸ stored
    ∷ load 1 0 0 ▸ fault ⟫ to 0 ask
    ∷ deliver 0 ▸ took ⟫ to 0 hand
    ∷ deliver 1 ▸ took ⟫ to 1 page
    ∷ repeat 2 ▸ took ⟫ to 0 confirm
    ∷ restart 1 ▸ took
    ∷ load 1 0 0 ▸ byte 5
    ∷ deliver 3 ▸ took
    ∷ store 0 0 0 6 ▸ fault ⟫ to 0 ask
    ∷ deliver 4 ▸ took ⟫ to 1 clear
    ∷ deliver 5 ▸ took ⟫ to 0 cleared
    ∷ restart 1 ▸ took
    ∷ deliver 2 ▸ dropped
    ∷ deliver 6 ▸ took ⟫ to 0 hand
    ∷ restart 0 ▸ took
    ∷ deliver 7 ▸ took ⟫ to 0 confirm
    ∷ deliver 8 ▸ took
    ∷ store 0 0 0 6 ▸ stored
    ∷ load 1 0 0 ▸ fault ⟫ to 0 ask
    ∷ show 0 0 (own_write 2 ∷ nil 2 ∷ []) (book 0 [] 2 idle)
    ∷ []

-- a site that owns the page by now is handed it to read: its right to write stays
abbrev pub owner_is_handed_to_read : List Line
owner_is_handed_to_read =
    store 1 0 0 1 ▸ fault ⟫ to 0 ask
    ∷ restart 1 ▸ took
    ∷ load 1 0 0 ▸ fault ⟫ to 0 ask
    ∷ deliver 0 ▸ took ⟫ to 0 hand
    ∷ deliver 2 ▸ took ⟫ to 1 page
    ∷ deliver 3 ▸ took ⟫ to 0 confirm
    ∷ deliver 4 ▸ took
    ∷ deliver 1 ▸ took ⟫ to 1 hand
    ∷ deliver 5 ▸ took ⟫ to 0 confirm
    ∷ show 0 0 (handed 1 ∷ own_write 2 ∷ []) (book 1 [] 2 (reading 1))
    ∷ deliver 6 ▸ took
    ∷ store 1 0 0 2 ▸ stored
    ∷ show 0 0 (handed 1 ∷ own_write 2 ∷ []) (book 1 [] 2 idle)
    ∷ []

-- sixteen requests wait, the next is dropped
abbrev pub sixteen_wait : List Line
sixteen_wait =
    load 1 0 0 ▸ fault ⟫ to 0 ask
    ∷ deliver 0 ▸ took ⟫ to 0 hand
    ∷ load 2 0 0 ▸ fault ⟫ to 0 ask
    ∷ restart 2 ▸ took
    ∷ load 2 0 0 ▸ fault ⟫ to 0 ask
    ∷ restart 2 ▸ took
    ∷ load 2 0 0 ▸ fault ⟫ to 0 ask
    ∷ restart 2 ▸ took
    ∷ load 2 0 0 ▸ fault ⟫ to 0 ask
    ∷ restart 2 ▸ took
    ∷ load 2 0 0 ▸ fault ⟫ to 0 ask
    ∷ restart 2 ▸ took
    ∷ load 2 0 0 ▸ fault ⟫ to 0 ask
    ∷ restart 2 ▸ took
    ∷ load 2 0 0 ▸ fault ⟫ to 0 ask
    ∷ restart 2 ▸ took
    ∷ load 2 0 0 ▸ fault ⟫ to 0 ask
    ∷ restart 2 ▸ took
    ∷ load 2 0 0 ▸ fault ⟫ to 0 ask
    ∷ restart 2 ▸ took
    ∷ load 2 0 0 ▸ fault ⟫ to 0 ask
    ∷ restart 2 ▸ took
    ∷ load 2 0 0 ▸ fault ⟫ to 0 ask
    ∷ restart 2 ▸ took
    ∷ load 2 0 0 ▸ fault ⟫ to 0 ask
    ∷ restart 2 ▸ took
    ∷ load 2 0 0 ▸ fault ⟫ to 0 ask
    ∷ restart 2 ▸ took
    ∷ load 2 0 0 ▸ fault ⟫ to 0 ask
    ∷ restart 2 ▸ took
    ∷ load 2 0 0 ▸ fault ⟫ to 0 ask
    ∷ restart 2 ▸ took
    ∷ load 2 0 0 ▸ fault ⟫ to 0 ask
    ∷ restart 2 ▸ took
    ∷ load 2 0 0 ▸ fault ⟫ to 0 ask
    ∷ restart 2 ▸ took
    ∷ deliver 2 ▸ took
    ∷ deliver 3 ▸ took
    ∷ deliver 4 ▸ took
    ∷ deliver 5 ▸ took
    ∷ deliver 6 ▸ took
    ∷ deliver 7 ▸ took
    ∷ deliver 8 ▸ took
    ∷ deliver 9 ▸ took
    ∷ deliver 10 ▸ took
    ∷ deliver 11 ▸ took
    ∷ deliver 12 ▸ took
    ∷ deliver 13 ▸ took
    ∷ deliver 14 ▸ took
    ∷ deliver 15 ▸ took
    ∷ deliver 16 ▸ took
    ∷ deliver 17 ▸ took
    ∷ repeat 18 ▸ dropped
    ∷ deliver 1 ▸ took ⟫ to 1 page
    ∷ deliver 19 ▸ took ⟫ to 0 confirm
    ∷ show 0 0 (own_read 1 ∷ copy 1 ∷ nil 0 ∷ []) (book 0 [] 1 (reading 1))
    ∷ deliver 20 ▸ took ⟫ to 0 hand
    ∷ deliver 18 ▸ took
    ∷ show 0 0 (own_read 1 ∷ copy 1 ∷ nil 0 ∷ []) (book 0 (1 ∷ []) 2 (reading 2))
    ∷ []

-- of two requests of one site that wait, the older comes last and is dropped: it was served by the newer
abbrev pub late_ask : List Line
late_ask =
    load 1 0 0 ▸ fault ⟫ to 0 ask
    ∷ deliver 0 ▸ took ⟫ to 0 hand
    ∷ load 2 0 0 ▸ fault ⟫ to 0 ask
    ∷ restart 2 ▸ took
    ∷ load 2 0 0 ▸ fault ⟫ to 0 ask
    ∷ deliver 3 ▸ took
    ∷ deliver 2 ▸ took
    ∷ deliver 1 ▸ took ⟫ to 1 page
    ∷ deliver 4 ▸ took ⟫ to 0 confirm
    ∷ deliver 5 ▸ took ⟫ to 0 hand
    ∷ deliver 6 ▸ took ⟫ to 2 page
    ∷ deliver 7 ▸ took ⟫ to 0 confirm
    ∷ deliver 8 ▸ took
    ∷ show 0 0 (own_read 2 ∷ copy 1 ∷ copy 2 ∷ []) (book 0 (1 ∷ 2 ∷ []) 2 idle)
    ∷ []
