-- Segments that are removed, destroyed with the last attachment, and purged at every site.
use Rattle.std.specs.Prelude.{List, [], ◌∷◌}
use Rattle.shm_model.specs.declared.call.Errno.TheVariants.{Eacces, Eidrm, Einval}
use Rattle.shm_laws.specs.Rows.Script.{Line, ask, hand, page, confirm, call, reply, purge, purged}
use Rattle.shm_laws.specs.Rows.Words.{◌▸◌, ◌⟫◌, ◌&◌, attach, attached, began, book, creat, deliver, detach, dropped, error, fault, get, gone, handed, id, load, marked, nil, no_book, ok, own_write, reading, refused, remove, repeat, replied, restart, ro, rw, set, show, stat, state, store, tick, to, took, writing}

-- a marked segment lives until its last detach, which is executed once however often it comes
abbrev pub removal : List Line
removal =
    get 0 0 0 3 256 0o600 creat ▸ began 1 ⟫ to 1 call
    ∷ deliver 0 ▸ took ⟫ to 0 reply
    ∷ deliver 1 ▸ replied 1 (id 1)
    ∷ attach 0 0 0 1 rw ▸ began 2 ⟫ to 1 call
    ∷ deliver 2 ▸ took ⟫ to 0 reply
    ∷ deliver 3 ▸ attached 2 0 256 rw
    ∷ attach 1 0 0 1 rw ▸ began 1 ⟫ to 1 call
    ∷ deliver 4 ▸ took ⟫ to 1 reply
    ∷ deliver 5 ▸ attached 1 0 256 rw
    ∷ remove 0 0 0 1 ▸ began 3 ⟫ to 1 call
    ∷ deliver 6 ▸ took ⟫ to 0 reply
    ∷ deliver 7 ▸ replied 3 ok
    ∷ stat 0 0 0 1 ▸ began 4 ⟫ to 1 call
    ∷ deliver 8 ▸ took ⟫ to 0 reply
    ∷ deliver 9 ▸ replied 4 (state 0 0 0 0 0 0o600 256 2 marked)
    ∷ get 0 0 0 3 256 0o600 creat ▸ began 5 ⟫ to 1 call
    ∷ deliver 10 ▸ took ⟫ to 0 reply
    ∷ deliver 11 ▸ replied 5 (id 3)
    ∷ attach 0 0 0 1 ro ▸ began 6 ⟫ to 1 call
    ∷ deliver 12 ▸ took ⟫ to 0 reply
    ∷ deliver 13 ▸ attached 6 1 256 ro
    ∷ detach 0 0 ▸ began 7 ⟫ to 1 call
    ∷ deliver 14 ▸ took ⟫ to 0 reply
    ∷ deliver 15 ▸ replied 7 ok
    ∷ detach 0 1 ▸ began 8 ⟫ to 1 call
    ∷ repeat 16 ▸ took ⟫ to 0 reply
    ∷ repeat 16 ▸ took ⟫ to 0 reply
    ∷ deliver 16 ▸ took ⟫ to 0 reply
    ∷ deliver 17 ▸ replied 8 ok
    ∷ deliver 18 ▸ dropped
    ∷ deliver 19 ▸ dropped
    ∷ stat 1 0 0 1 ▸ began 2 ⟫ to 1 call
    ∷ deliver 20 ▸ took ⟫ to 1 reply
    ∷ deliver 21 ▸ replied 2 (state 0 0 0 0 0 0o600 256 1 marked)
    ∷ detach 1 0 ▸ began 3 ⟫ to 1 call
    ∷ repeat 22 ▸ took ⟫ to 1 reply & to 0 purge & to 1 purge
    ∷ repeat 22 ▸ took ⟫ to 1 reply
    ∷ deliver 22 ▸ took ⟫ to 1 reply
    ∷ deliver 23 ▸ replied 3 ok
    ∷ deliver 26 ▸ dropped
    ∷ deliver 27 ▸ dropped
    ∷ attach 0 0 0 1 ro ▸ began 9 ⟫ to 1 call
    ∷ deliver 28 ▸ took ⟫ to 0 reply
    ∷ deliver 29 ▸ replied 9 (error Eidrm)
    ∷ stat 0 0 0 5 ▸ began 10 ⟫ to 1 call
    ∷ deliver 30 ▸ took ⟫ to 0 reply
    ∷ deliver 31 ▸ replied 10 (error Einval)
    ∷ get 0 0 0 3 256 0o600 0 ▸ began 11 ⟫ to 1 call
    ∷ deliver 32 ▸ took ⟫ to 0 reply
    ∷ deliver 33 ▸ replied 11 (id 3)
    ∷ []

-- a marked segment may be attached, described, changed and removed again
abbrev pub marked_segment : List Line
marked_segment =
    get 0 1 1 5 10 0o606 creat ▸ began 1 ⟫ to 0 call
    ∷ deliver 0 ▸ took ⟫ to 0 reply
    ∷ deliver 1 ▸ replied 1 (id 0)
    ∷ attach 0 1 1 0 rw ▸ began 2 ⟫ to 0 call
    ∷ deliver 2 ▸ took ⟫ to 0 reply
    ∷ deliver 3 ▸ attached 2 0 10 rw
    ∷ remove 0 1 1 0 ▸ began 3 ⟫ to 0 call
    ∷ deliver 4 ▸ took ⟫ to 0 reply
    ∷ deliver 5 ▸ replied 3 ok
    ∷ remove 0 1 1 0 ▸ began 4 ⟫ to 0 call
    ∷ deliver 6 ▸ took ⟫ to 0 reply
    ∷ deliver 7 ▸ replied 4 ok
    ∷ get 0 1 1 5 10 0o600 creat ▸ began 5 ⟫ to 0 call
    ∷ deliver 8 ▸ took ⟫ to 0 reply
    ∷ deliver 9 ▸ replied 5 (id 1)
    ∷ set 0 1 1 0 3 3 0o640 ▸ began 6 ⟫ to 0 call
    ∷ deliver 10 ▸ took ⟫ to 0 reply
    ∷ deliver 11 ▸ replied 6 ok
    ∷ stat 0 1 1 0 ▸ began 7 ⟫ to 0 call
    ∷ deliver 12 ▸ took ⟫ to 0 reply
    ∷ deliver 13 ▸ replied 7 (state 0 3 3 1 1 0o640 10 1 marked)
    ∷ stat 0 3 7 0 ▸ began 8 ⟫ to 0 call
    ∷ deliver 14 ▸ took ⟫ to 0 reply
    ∷ deliver 15 ▸ replied 8 (state 0 3 3 1 1 0o640 10 1 marked)
    ∷ remove 0 3 7 0 ▸ began 9 ⟫ to 0 call
    ∷ deliver 16 ▸ took ⟫ to 0 reply
    ∷ deliver 17 ▸ replied 9 ok
    ∷ attach 0 9 3 0 rw ▸ began 10 ⟫ to 0 call
    ∷ deliver 18 ▸ took ⟫ to 0 reply
    ∷ deliver 19 ▸ replied 10 (error Eacces)
    ∷ attach 0 9 3 0 ro ▸ began 11 ⟫ to 0 call
    ∷ deliver 20 ▸ took ⟫ to 0 reply
    ∷ deliver 21 ▸ attached 11 1 10 ro
    ∷ detach 0 0 ▸ began 12 ⟫ to 0 call
    ∷ deliver 22 ▸ took ⟫ to 0 reply
    ∷ deliver 23 ▸ replied 12 ok
    ∷ stat 0 1 1 0 ▸ began 13 ⟫ to 0 call
    ∷ deliver 24 ▸ took ⟫ to 0 reply
    ∷ deliver 25 ▸ replied 13 (state 0 3 3 1 1 0o640 10 1 marked)
    ∷ detach 0 1 ▸ began 14 ⟫ to 0 call
    ∷ deliver 26 ▸ took ⟫ to 0 reply & to 0 purge
    ∷ deliver 27 ▸ replied 14 ok
    ∷ stat 0 1 1 0 ▸ began 15 ⟫ to 0 call
    ∷ deliver 28 ▸ took ⟫ to 0 purged
    ∷ deliver 29 ▸ took ⟫ to 0 reply
    ∷ stat 0 9 9 0 ▸ refused 8
    ∷ deliver 30 ▸ took
    ∷ deliver 31 ▸ replied 15 (error Eidrm)
    ∷ remove 0 1 1 1 ▸ began 16 ⟫ to 0 call
    ∷ deliver 32 ▸ took ⟫ to 0 reply & to 0 purge
    ∷ deliver 33 ▸ replied 16 ok
    ∷ attach 0 1 1 1 ro ▸ began 17 ⟫ to 0 call
    ∷ deliver 34 ▸ took ⟫ to 0 purged
    ∷ deliver 35 ▸ took ⟫ to 0 reply
    ∷ []

-- a Page that comes after the purge is dropped
abbrev pub purge_and_stale_page : List Line
purge_and_stale_page =
    store 1 0 0 4 ▸ fault ⟫ to 0 ask
    ∷ deliver 0 ▸ took ⟫ to 0 hand
    ∷ deliver 1 ▸ took ⟫ to 1 page
    ∷ remove 0 0 0 0 ▸ began 1 ⟫ to 0 call
    ∷ deliver 3 ▸ took ⟫ to 0 reply
    ∷ deliver 4 ▸ replied 1 ok
    ∷ detach 0 0 ▸ began 2 ⟫ to 0 call
    ∷ deliver 5 ▸ took ⟫ to 0 reply
    ∷ deliver 6 ▸ replied 2 ok
    ∷ detach 1 0 ▸ began 1 ⟫ to 0 call
    ∷ deliver 7 ▸ took ⟫ to 1 reply & to 0 purge & to 1 purge
    ∷ deliver 10 ▸ took ⟫ to 0 purged
    ∷ restart 1 ▸ took
    ∷ deliver 2 ▸ dropped
    ∷ deliver 8 ▸ replied 1 ok
    ∷ show 0 0 (handed 1 ∷ gone ∷ []) (book 0 [] 1 (writing 1))
    ∷ []

-- a purge is sent again until it is answered
abbrev pub purge_resent : List Line
purge_resent =
    remove 0 0 0 0 ▸ began 1 ⟫ to 0 call
    ∷ deliver 0 ▸ took ⟫ to 0 reply
    ∷ deliver 1 ▸ replied 1 ok
    ∷ detach 0 0 ▸ began 2 ⟫ to 0 call
    ∷ repeat 2 ▸ took ⟫ to 0 reply & to 0 purge
    ∷ deliver 2 ▸ took ⟫ to 0 reply
    ∷ deliver 3 ▸ replied 2 ok
    ∷ tick 0 ▸ took ⟫ to 0 purge
    ∷ deliver 4 ▸ took ⟫ to 0 purged
    ∷ deliver 6 ▸ took ⟫ to 0 purged
    ∷ deliver 7 ▸ took
    ∷ deliver 8 ▸ dropped
    ∷ tick 0 ▸ took
    ∷ show 0 0 (gone ∷ []) no_book
    ∷ []

-- three segments at site 0, each attached at site 1, which asks to read the first; and these lines
abbrev pub three_segments_and : List Line → List Line
three_segments_and lines =
    get 0 0 0 0 1 0o666 0 ▸ began 1 ⟫ to 0 call
    ∷ deliver 0 ▸ took ⟫ to 0 reply
    ∷ deliver 1 ▸ replied 1 (id 0)
    ∷ get 0 0 0 2 1 0o666 creat ▸ began 2 ⟫ to 0 call
    ∷ deliver 2 ▸ took ⟫ to 0 reply
    ∷ deliver 3 ▸ replied 2 (id 2)
    ∷ get 0 0 0 4 1 0o666 creat ▸ began 3 ⟫ to 0 call
    ∷ deliver 4 ▸ took ⟫ to 0 reply
    ∷ deliver 5 ▸ replied 3 (id 4)
    ∷ attach 1 0 0 0 rw ▸ began 1 ⟫ to 0 call
    ∷ deliver 6 ▸ took ⟫ to 1 reply
    ∷ deliver 7 ▸ attached 1 0 1 rw
    ∷ attach 1 0 0 2 rw ▸ began 2 ⟫ to 0 call
    ∷ deliver 8 ▸ took ⟫ to 1 reply
    ∷ deliver 9 ▸ attached 2 1 1 rw
    ∷ attach 1 0 0 4 rw ▸ began 3 ⟫ to 0 call
    ∷ deliver 10 ▸ took ⟫ to 1 reply
    ∷ deliver 11 ▸ attached 3 2 1 rw
    ∷ load 1 0 0 ▸ fault ⟫ to 0 ask
    ∷ lines

-- a purge takes the segment's entries, books and requests, and the rest stays
abbrev pub purge_of_one_segment : List Line
purge_of_one_segment =
    three_segments_and (
    load 1 1 0 ▸ fault ⟫ to 0 ask
    ∷ load 1 2 0 ▸ fault ⟫ to 0 ask
    ∷ repeat 12 ▸ took ⟫ to 0 hand
    ∷ repeat 13 ▸ took ⟫ to 0 hand
    ∷ repeat 14 ▸ took ⟫ to 0 hand
    ∷ tick 0 ▸ took ⟫ to 0 hand & to 0 hand & to 0 hand
    ∷ tick 1 ▸ took ⟫ to 0 ask & to 0 ask & to 0 ask
    ∷ remove 1 0 0 0 ▸ began 4 ⟫ to 0 call
    ∷ deliver 24 ▸ took ⟫ to 1 reply
    ∷ deliver 25 ▸ replied 4 ok
    ∷ detach 1 0 ▸ began 5 ⟫ to 0 call
    ∷ repeat 26 ▸ took ⟫ to 1 reply & to 0 purge & to 1 purge
    ∷ tick 0 ▸ took ⟫ to 0 hand & to 0 hand & to 0 hand & to 0 purge & to 1 purge
    ∷ deliver 28 ▸ took ⟫ to 0 purged
    ∷ deliver 29 ▸ took ⟫ to 0 purged
    ∷ deliver 33 ▸ took ⟫ to 0 purged
    ∷ tick 0 ▸ took ⟫ to 0 hand & to 0 hand & to 0 purge & to 1 purge
    ∷ tick 1 ▸ took ⟫ to 0 ask & to 0 ask & to 0 call
    ∷ repeat 12 ▸ dropped
    ∷ deliver 15 ▸ dropped
    ∷ show 0 0 (gone ∷ gone ∷ []) no_book
    ∷ show 0 255 (gone ∷ gone ∷ []) no_book
    ∷ show 2 0 (own_write 0 ∷ nil 0 ∷ []) (book 0 [] 1 (reading 1))
    ∷ deliver 26 ▸ took ⟫ to 1 reply
    ∷ deliver 27 ▸ replied 5 ok
    ∷ stat 0 0 0 0 ▸ began 4 ⟫ to 0 call
    ∷ restart 0 ▸ took
    ∷ tick 0 ▸ took ⟫ to 0 hand & to 0 hand & to 0 call & to 0 purge & to 1 purge
    ∷ show 0 0 (gone ∷ gone ∷ []) no_book
    ∷ []
    )

-- the books of other segments keep their order
abbrev pub books_after_a_purge : List Line
books_after_a_purge =
    three_segments_and (
    repeat 12 ▸ took ⟫ to 0 hand
    ∷ store 1 2 0 1 ▸ fault ⟫ to 0 ask
    ∷ restart 1 ▸ took
    ∷ load 1 2 0 ▸ fault ⟫ to 0 ask
    ∷ deliver 14 ▸ took ⟫ to 0 hand
    ∷ deliver 16 ▸ took ⟫ to 1 page
    ∷ deliver 17 ▸ took ⟫ to 0 confirm
    ∷ deliver 18 ▸ took
    ∷ deliver 15 ▸ took ⟫ to 1 hand
    ∷ load 1 1 0 ▸ fault ⟫ to 0 ask
    ∷ deliver 20 ▸ took ⟫ to 0 hand
    ∷ tick 0 ▸ took ⟫ to 0 hand & to 1 hand & to 0 hand
    ∷ remove 1 0 0 0 ▸ began 4 ⟫ to 0 call
    ∷ deliver 25 ▸ took ⟫ to 1 reply
    ∷ deliver 26 ▸ replied 4 ok
    ∷ detach 1 0 ▸ began 5 ⟫ to 0 call
    ∷ deliver 27 ▸ took ⟫ to 1 reply & to 0 purge & to 1 purge
    ∷ deliver 29 ▸ took ⟫ to 0 purged
    ∷ tick 0 ▸ took ⟫ to 1 hand & to 0 hand & to 0 purge & to 1 purge
    ∷ []
    )
