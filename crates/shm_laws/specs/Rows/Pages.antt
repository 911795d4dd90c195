-- Pages on their way between sites, with a network that loses nothing.
use Rattle.std.specs.Prelude.{List, [], ◌∷◌}
use Rattle.shm_laws.specs.Rows.Script.{Line, ask, clear, cleared, hand, page, confirm, call, reply}
use Rattle.shm_laws.specs.Rows.Words.{◌▸◌, ◌⟫◌, ◌&◌, attach, attached, began, book, byte, copy, deliver, detach, dropped, fault, handed, idle, live, load, nil, own_read, own_write, refused, repeat, replied, ro, rw, show, stat, state, store, stored, tick, to, took, waiting, writing}

-- one site alone has the page of the opening, all zero
abbrev pub smallest_world : List Line
smallest_world =
    load 0 0 0 ▸ byte 0
    ∷ []

-- a first read: the manager is asked, the owner lends a copy, the reader confirms
abbrev pub first_read_fault : List Line
first_read_fault =
    store 0 0 0 7 ▸ stored
    ∷ load 1 0 0 ▸ fault ⟫ to 0 ask
    ∷ deliver 0 ▸ took ⟫ to 0 hand
    ∷ deliver 1 ▸ took ⟫ to 1 page
    ∷ deliver 2 ▸ took ⟫ to 0 confirm
    ∷ deliver 3 ▸ took
    ∷ load 1 0 0 ▸ byte 7
    ∷ []

-- a reader asks to write: the owner hands the page over, and asks to read it afterwards
abbrev pub reader_becomes_writer : List Line
reader_becomes_writer =
    store 0 0 0 7 ▸ stored
    ∷ load 1 0 0 ▸ fault ⟫ to 0 ask
    ∷ deliver 0 ▸ took ⟫ to 0 hand
    ∷ deliver 1 ▸ took ⟫ to 1 page
    ∷ deliver 2 ▸ took ⟫ to 0 confirm
    ∷ deliver 3 ▸ took
    ∷ load 1 0 0 ▸ byte 7
    ∷ store 1 0 0 9 ▸ fault ⟫ to 0 ask
    ∷ deliver 4 ▸ took ⟫ to 0 hand
    ∷ load 0 0 0 ▸ byte 7
    ∷ deliver 5 ▸ took ⟫ to 1 page
    ∷ load 0 0 0 ▸ fault ⟫ to 0 ask
    ∷ load 1 0 0 ▸ byte 7
    ∷ deliver 6 ▸ took ⟫ to 0 confirm
    ∷ store 1 0 0 9 ▸ stored
    ∷ load 0 0 0 ▸ waiting
    ∷ show 0 0 (handed 2 ∷ own_write 2 ∷ []) (book 0 (1 ∷ []) 2 (writing 1))
    ∷ deliver 8 ▸ took
    ∷ deliver 7 ▸ took ⟫ to 1 hand
    ∷ deliver 9 ▸ took ⟫ to 0 page
    ∷ deliver 10 ▸ took ⟫ to 0 confirm
    ∷ deliver 11 ▸ took
    ∷ load 0 0 0 ▸ byte 9
    ∷ show 0 0 (copy 3 ∷ own_read 3 ∷ []) (book 1 (0 ∷ []) 3 idle)
    ∷ []

-- three requests wait for one page; the write clears two copies first, out of order, one Clear repeated
abbrev pub queued_reads_then_two_clears : List Line
queued_reads_then_two_clears =
    store 0 0 0 5 ▸ stored
    ∷ load 1 0 0 ▸ fault ⟫ to 0 ask
    ∷ load 2 0 0 ▸ fault ⟫ to 0 ask
    ∷ load 3 0 0 ▸ fault ⟫ to 0 ask
    ∷ deliver 0 ▸ took ⟫ to 0 hand
    ∷ deliver 1 ▸ took
    ∷ deliver 2 ▸ took
    ∷ deliver 3 ▸ took ⟫ to 1 page
    ∷ deliver 4 ▸ took ⟫ to 0 confirm
    ∷ deliver 5 ▸ took ⟫ to 0 hand
    ∷ deliver 6 ▸ took ⟫ to 2 page
    ∷ deliver 7 ▸ took ⟫ to 0 confirm
    ∷ deliver 8 ▸ took ⟫ to 0 hand
    ∷ deliver 9 ▸ took ⟫ to 3 page
    ∷ deliver 10 ▸ took ⟫ to 0 confirm
    ∷ deliver 11 ▸ took
    ∷ store 3 0 0 6 ▸ fault ⟫ to 0 ask
    ∷ deliver 12 ▸ took ⟫ to 1 clear & to 2 clear
    ∷ deliver 14 ▸ took ⟫ to 0 cleared
    ∷ repeat 13 ▸ took ⟫ to 0 cleared
    ∷ deliver 13 ▸ took ⟫ to 0 cleared
    ∷ deliver 16 ▸ took
    ∷ deliver 17 ▸ dropped
    ∷ deliver 15 ▸ took ⟫ to 0 hand
    ∷ deliver 18 ▸ took ⟫ to 3 page
    ∷ deliver 19 ▸ took ⟫ to 0 confirm
    ∷ store 3 0 0 6 ▸ stored
    ∷ deliver 20 ▸ took
    ∷ show 0 0 (handed 4 ∷ nil 4 ∷ nil 4 ∷ own_write 4 ∷ []) (book 3 [] 4 idle)
    ∷ []

-- the owner lent two copies and wants to write: both are cleared before it may
abbrev pub owner_upgrades : List Line
owner_upgrades =
    load 1 0 0 ▸ fault ⟫ to 0 ask
    ∷ deliver 0 ▸ took ⟫ to 0 hand
    ∷ deliver 1 ▸ took ⟫ to 1 page
    ∷ deliver 2 ▸ took ⟫ to 0 confirm
    ∷ deliver 3 ▸ took
    ∷ load 2 0 0 ▸ fault ⟫ to 0 ask
    ∷ deliver 4 ▸ took ⟫ to 0 hand
    ∷ deliver 5 ▸ took ⟫ to 2 page
    ∷ deliver 6 ▸ took ⟫ to 0 confirm
    ∷ deliver 7 ▸ took
    ∷ store 0 0 0 3 ▸ fault ⟫ to 0 ask
    ∷ deliver 8 ▸ took ⟫ to 1 clear & to 2 clear
    ∷ deliver 9 ▸ took ⟫ to 0 cleared
    ∷ deliver 10 ▸ took ⟫ to 0 cleared
    ∷ deliver 11 ▸ took
    ∷ deliver 12 ▸ took ⟫ to 0 hand
    ∷ deliver 13 ▸ took ⟫ to 0 confirm
    ∷ store 0 0 0 3 ▸ stored
    ∷ deliver 14 ▸ took
    ∷ []

-- each page is at its manager at first
abbrev pub pages_at_managers : List Line
pages_at_managers =
    store 0 0 4095 1 ▸ stored
    ∷ store 0 0 4096 2 ▸ fault ⟫ to 1 ask
    ∷ store 1 0 4096 2 ▸ stored
    ∷ load 1 0 4096 ▸ byte 2
    ∷ load 1 0 8192 ▸ refused 11
    ∷ load 0 1 0 ▸ refused 9
    ∷ load 2 0 0 ▸ refused 14
    ∷ show 0 1 (nil 0 ∷ own_write 0 ∷ []) (book 1 [] 0 idle)
    ∷ show 131071 255 (own_write 0 ∷ nil 0 ∷ []) (book 0 [] 0 idle)
    ∷ []

-- the last byte of a page, the first of the next, and past the end
abbrev pub page_boundaries : List Line
page_boundaries =
    store 0 0 4095 1 ▸ stored
    ∷ store 0 0 4096 2 ▸ fault ⟫ to 1 ask
    ∷ store 1 0 4096 2 ▸ stored
    ∷ load 1 0 8191 ▸ byte 0
    ∷ load 1 0 8192 ▸ refused 11
    ∷ load 1 1 0 ▸ refused 9
    ∷ load 2 0 0 ▸ refused 14
    ∷ []

-- which refusal comes first: of an access, and of a segment call
abbrev pub order_of_refusals : List Line
order_of_refusals =
    stat 0 0 0 0 ▸ began 1 ⟫ to 0 call
    ∷ detach 0 9 ▸ refused 8
    ∷ attach 0 0 0 0 rw ▸ refused 8
    ∷ deliver 0 ▸ took ⟫ to 0 reply
    ∷ deliver 1 ▸ replied 1 (state 0 0 0 0 0 0o666 4096 2 live)
    ∷ detach 0 9 ▸ refused 9
    ∷ attach 0 0 0 0 ro ▸ began 2 ⟫ to 0 call
    ∷ deliver 2 ▸ took ⟫ to 0 reply
    ∷ deliver 3 ▸ attached 2 1 4096 ro
    ∷ store 0 1 4294967295 1 ▸ refused 10
    ∷ store 0 2 4294967295 1 ▸ refused 9
    ∷ store 2 9 4294967295 1 ▸ refused 14
    ∷ load 0 1 4294967295 ▸ refused 11
    ∷ detach 2 9 ▸ refused 14
    ∷ []

-- what is asked again in which order; a store takes the place of the load that its site asked for
abbrev pub order_of_asks : List Line
order_of_asks =
    load 2 0 0 ▸ fault ⟫ to 0 ask
    ∷ load 2 0 12288 ▸ fault ⟫ to 0 ask
    ∷ load 2 0 4096 ▸ fault ⟫ to 1 ask
    ∷ deliver 0 ▸ took ⟫ to 0 hand
    ∷ deliver 3 ▸ took ⟫ to 2 page
    ∷ deliver 4 ▸ took ⟫ to 0 confirm
    ∷ tick 2 ▸ took ⟫ to 0 ask & to 1 ask
    ∷ store 2 0 12288 1 ▸ fault ⟫ to 0 ask
    ∷ load 2 0 12288 ▸ waiting
    ∷ tick 2 ▸ took ⟫ to 0 ask & to 1 ask
    ∷ []

-- a tick sends the Asks, then what the books want in the order of their first transactions, then the call
abbrev pub order_of_a_tick : List Line
order_of_a_tick =
    load 0 0 12288 ▸ fault ⟫ to 1 ask
    ∷ load 0 0 4096 ▸ fault ⟫ to 1 ask
    ∷ load 1 0 16384 ▸ fault ⟫ to 0 ask
    ∷ load 1 0 0 ▸ fault ⟫ to 0 ask
    ∷ load 1 0 8192 ▸ fault ⟫ to 0 ask
    ∷ deliver 2 ▸ took ⟫ to 0 hand
    ∷ deliver 4 ▸ took ⟫ to 0 hand
    ∷ deliver 3 ▸ took ⟫ to 0 hand
    ∷ store 0 0 12288 1 ▸ fault ⟫ to 1 ask
    ∷ stat 0 0 0 0 ▸ began 1 ⟫ to 0 call
    ∷ tick 0 ▸ took ⟫ to 1 ask & to 1 ask & to 0 hand & to 0 hand & to 0 hand & to 0 call
    ∷ deliver 5 ▸ took ⟫ to 1 page
    ∷ deliver 15 ▸ took ⟫ to 0 reply
    ∷ tick 0 ▸ took ⟫ to 1 ask & to 1 ask & to 0 hand & to 0 hand & to 0 hand & to 0 call
    ∷ deliver 0 ▸ took ⟫ to 1 hand
    ∷ tick 1 ▸ took ⟫ to 0 ask & to 0 ask & to 0 ask & to 1 hand
    ∷ tick 0 ▸ took ⟫ to 1 ask & to 1 ask & to 0 hand & to 0 hand & to 0 hand & to 0 call
    ∷ []
