-- Random scripts; what they answer and send comes from an independent program.
use Rattle.std.specs.Prelude.{List, [], ◌∷◌, ◌+◌}
use Rattle.shm_model.specs.declared.call.Errno.TheVariants.{Eacces, Eexist}
use Rattle.shm_laws.specs.Rows.Script.{Line, ask, clear, cleared, hand, page, confirm, call, reply}
use Rattle.shm_laws.specs.Rows.Words.{◌▸◌, ◌⟫◌, ◌&◌, attach, attached, began, byte, creat, deliver, detach, dropped, error, excl, fault, get, id, load, lose, ok, refused, remove, repeat, replied, restart, ro, rw, set, store, stored, tick, to, took, waiting}

-- 3 sites, 3 pages, 107 events
abbrev pub seventh_random_script : List Line
seventh_random_script =
    store 2 0 5 34 ▸ fault ⟫ to 0 ask
    ∷ deliver 0 ▸ took ⟫ to 0 hand
    ∷ repeat 1 ▸ took ⟫ to 2 page
    ∷ deliver 2 ▸ took ⟫ to 0 confirm
    ∷ store 0 0 4101 1 ▸ fault ⟫ to 1 ask
    ∷ restart 2 ▸ took
    ∷ load 2 0 4097 ▸ fault ⟫ to 1 ask
    ∷ repeat 5 ▸ took ⟫ to 1 hand
    ∷ deliver 6 ▸ took ⟫ to 2 page
    ∷ tick 1 ▸ took ⟫ to 1 hand
    ∷ store 1 0 0 160 ▸ fault ⟫ to 0 ask
    ∷ deliver 9 ▸ took
    ∷ repeat 8 ▸ took ⟫ to 2 page
    ∷ repeat 10 ▸ took ⟫ to 1 confirm
    ∷ restart 1 ▸ took
    ∷ repeat 11 ▸ took
    ∷ repeat 4 ▸ took ⟫ to 2 clear
    ∷ store 1 0 8193 253 ▸ fault ⟫ to 2 ask
    ∷ store 0 0 4096 114 ▸ waiting
    ∷ deliver 13 ▸ took ⟫ to 2 hand
    ∷ deliver 14 ▸ took ⟫ to 1 page
    ∷ restart 1 ▸ took
    ∷ get 1 1 0 0 4096 0o111 creat ▸ began 1 ⟫ to 1 call
    ∷ deliver 16 ▸ took ⟫ to 1 reply
    ∷ deliver 17 ▸ replied 1 (id 1)
    ∷ deliver 15 ▸ took ⟫ to 2 confirm
    ∷ tick 1 ▸ took ⟫ to 2 clear
    ∷ deliver 19 ▸ took ⟫ to 1 cleared
    ∷ repeat 20 ▸ took ⟫ to 1 hand
    ∷ tick 2 ▸ took ⟫ to 2 hand
    ∷ repeat 22 ▸ took ⟫ to 1 page
    ∷ load 1 0 8192 ▸ byte 0
    ∷ attach 3 0 0 0 rw ▸ refused 14
    ∷ deliver 7 ▸ dropped
    ∷ repeat 12 ▸ took ⟫ to 1 cleared
    ∷ restart 2 ▸ took
    ∷ store 1 0 5 158 ▸ fault ⟫ to 0 ask
    ∷ deliver 25 ▸ took
    ∷ attach 1 0 0 1 rw ▸ began 2 ⟫ to 1 call
    ∷ deliver 26 ▸ took ⟫ to 1 reply
    ∷ deliver 27 ▸ replied 2 (error Eacces)
    ∷ tick 0 ▸ took ⟫ to 1 ask & to 0 hand
    ∷ deliver 29 ▸ took ⟫ to 2 page
    ∷ load 1 0 8197 ▸ byte 0
    ∷ store 1 0 8192 104 ▸ stored
    ∷ repeat 3 ▸ took ⟫ to 2 hand
    ∷ store 1 0 4096 196 ▸ fault ⟫ to 1 ask
    ∷ repeat 24 ▸ dropped
    ∷ deliver 32 ▸ took
    ∷ deliver 31 ▸ took ⟫ to 1 page
    ∷ detach 2 0 ▸ began 1 ⟫ to 0 call
    ∷ load 0 0 4294967295 ▸ refused 11
    ∷ deliver 34 ▸ took ⟫ to 2 reply
    ∷ deliver 33 ▸ took ⟫ to 0 confirm
    ∷ repeat 18 ▸ took
    ∷ repeat 35 ▸ replied 1 ok
    ∷ store 2 2 0 156 ▸ refused 9
    ∷ repeat 23 ▸ took ⟫ to 2 confirm
    ∷ repeat 28 ▸ dropped
    ∷ deliver 37 ▸ dropped
    ∷ deliver 3 ▸ dropped
    ∷ repeat 36 ▸ took ⟫ to 1 hand
    ∷ load 2 1 0 ▸ refused 9
    ∷ deliver 30 ▸ dropped
    ∷ repeat 1 ▸ took ⟫ to 2 page
    ∷ deliver 21 ▸ took ⟫ to 0 page
    ∷ deliver 40 ▸ took ⟫ to 1 confirm
    ∷ deliver 41 ▸ took ⟫ to 0 hand
    ∷ deliver 42 ▸ took ⟫ to 1 page
    ∷ store 1 0 8193 35 ▸ stored
    ∷ deliver 43 ▸ took ⟫ to 1 confirm
    ∷ tick 0 ▸ took ⟫ to 1 hand
    ∷ deliver 39 ▸ dropped
    ∷ store 1 0 4101 201 ▸ stored
    ∷ deliver 45 ▸ took ⟫ to 0 confirm
    ∷ repeat 46 ▸ took
    ∷ store 2 1 5 95 ▸ refused 9
    ∷ deliver 44 ▸ took
    ∷ deliver 46 ▸ dropped
    ∷ deliver 38 ▸ took ⟫ to 0 confirm
    ∷ detach 0 0 ▸ began 1 ⟫ to 0 call
    ∷ deliver 48 ▸ took ⟫ to 0 reply
    ∷ load 1 0 8192 ▸ byte 104
    ∷ repeat 47 ▸ dropped
    ∷ store 2 2 1 217 ▸ refused 9
    ∷ get 1 1 0 2 4097 0o600 creat ▸ began 3 ⟫ to 2 call
    ∷ store 2 1 0 104 ▸ refused 9
    ∷ repeat 50 ▸ took ⟫ to 1 reply
    ∷ tick 0 ▸ took ⟫ to 0 call
    ∷ repeat 52 ▸ took ⟫ to 0 reply
    ∷ repeat 49 ▸ replied 1 ok
    ∷ deliver 53 ▸ dropped
    ∷ store 0 0 5 162 ▸ refused 9
    ∷ repeat 51 ▸ replied 3 (id 2)
    ∷ store 1 0 8192 45 ▸ stored
    ∷ lose 22 ▸ took
    ∷ deliver 52 ▸ took ⟫ to 0 reply
    ∷ store 0 1 5 236 ▸ refused 9
    ∷ detach 1 0 ▸ began 4 ⟫ to 0 call
    ∷ repeat 55 ▸ took ⟫ to 1 reply
    ∷ store 1 0 5 74 ▸ refused 9
    ∷ repeat 54 ▸ dropped
    ∷ load 1 2 1 ▸ refused 9
    ∷ deliver 56 ▸ replied 4 ok
    ∷ tick 1 ▸ took
    ∷ load 2 2 5 ▸ refused 9
    ∷ deliver 8 ▸ dropped
    ∷ []

-- 4 sites, 2 pages, 2 frames, 104 events
abbrev pub eighth_random_script : List Line
eighth_random_script =
    load 1 0 4101 ▸ byte 0
    ∷ store 3 0 0 58 ▸ fault ⟫ to 0 ask
    ∷ deliver 0 ▸ took ⟫ to 0 hand
    ∷ deliver 1 ▸ took ⟫ to 3 page
    ∷ deliver 2 ▸ took ⟫ to 0 confirm
    ∷ deliver 3 ▸ took
    ∷ load 0 0 4101 ▸ fault ⟫ to 1 ask
    ∷ attach 0 0 0 0 ro ▸ began 1 ⟫ to 0 call
    ∷ repeat 5 ▸ took ⟫ to 0 reply
    ∷ attach 2 0 1 0 rw ▸ began 1 ⟫ to 0 call
    ∷ repeat 7 ▸ took ⟫ to 2 reply
    ∷ lose 6 ▸ took
    ∷ deliver 8 ▸ attached 1 1 8192 rw
    ∷ repeat 4 ▸ took ⟫ to 1 hand
    ∷ deliver 9 ▸ took ⟫ to 0 page
    ∷ deliver 4 ▸ dropped
    ∷ deliver 7 ▸ took ⟫ to 2 reply
    ∷ repeat 11 ▸ dropped
    ∷ deliver 10 ▸ took ⟫ to 1 confirm
    ∷ load 3 0 4097 ▸ fault ⟫ to 1 ask
    ∷ deliver 13 ▸ took
    ∷ deliver 5 ▸ took ⟫ to 0 reply
    ∷ tick 2 ▸ took
    ∷ deliver 12 ▸ took ⟫ to 1 hand
    ∷ deliver 15 ▸ took ⟫ to 3 page
    ∷ deliver 14 ▸ attached 1 1 8192 ro
    ∷ tick 1 ▸ took ⟫ to 1 hand
    ∷ store 1 0 0 19 ▸ fault ⟫ to 0 ask
    ∷ load 3 0 5 ▸ byte 0
    ∷ tick 2 ▸ took
    ∷ deliver 18 ▸ took ⟫ to 3 hand
    ∷ deliver 19 ▸ took ⟫ to 1 page
    ∷ deliver 11 ▸ dropped
    ∷ store 2 0 4096 182 ▸ fault ⟫ to 1 ask
    ∷ tick 0 ▸ took ⟫ to 3 hand
    ∷ restart 3 ▸ took
    ∷ load 2 1 4096 ▸ waiting
    ∷ deliver 21 ▸ took
    ∷ deliver 16 ▸ took ⟫ to 1 confirm
    ∷ deliver 17 ▸ took ⟫ to 3 page
    ∷ deliver 23 ▸ took ⟫ to 0 clear & to 3 clear
    ∷ attach 2 0 0 0 rw ▸ began 2 ⟫ to 0 call
    ∷ deliver 26 ▸ took ⟫ to 1 cleared
    ∷ deliver 20 ▸ took ⟫ to 0 confirm
    ∷ deliver 29 ▸ took
    ∷ deliver 22 ▸ took ⟫ to 1 page
    ∷ repeat 28 ▸ took
    ∷ tick 1 ▸ took ⟫ to 0 clear
    ∷ detach 0 0 ▸ began 2 ⟫ to 0 call
    ∷ load 1 0 1 ▸ byte 0
    ∷ deliver 32 ▸ took ⟫ to 0 reply
    ∷ restart 3 ▸ took
    ∷ load 3 0 4096 ▸ fault ⟫ to 1 ask
    ∷ deliver 27 ▸ took ⟫ to 2 reply
    ∷ store 0 1 4096 52 ▸ refused 10
    ∷ deliver 33 ▸ replied 2 ok
    ∷ deliver 34 ▸ took
    ∷ deliver 24 ▸ dropped
    ∷ remove 2 0 0 0 ▸ refused 8
    ∷ set 2 2 0 0 0 0 0o600 ▸ refused 8
    ∷ deliver 35 ▸ attached 2 2 8192 rw
    ∷ get 0 0 0 4294967295 1 0o777 (creat + excl) ▸ began 3 ⟫ to 3 call
    ∷ deliver 31 ▸ took ⟫ to 1 cleared
    ∷ deliver 37 ▸ took ⟫ to 1 hand
    ∷ deliver 25 ▸ took ⟫ to 1 cleared
    ∷ deliver 36 ▸ took ⟫ to 0 reply
    ∷ deliver 40 ▸ replied 3 (id 3)
    ∷ deliver 39 ▸ dropped
    ∷ deliver 38 ▸ took ⟫ to 2 page
    ∷ store 1 0 4101 162 ▸ fault ⟫ to 1 ask
    ∷ lose 41 ▸ took
    ∷ deliver 28 ▸ dropped
    ∷ deliver 42 ▸ took
    ∷ deliver 30 ▸ took ⟫ to 0 confirm
    ∷ deliver 43 ▸ dropped
    ∷ store 2 1 0 227 ▸ fault ⟫ to 0 ask
    ∷ store 2 0 4097 0 ▸ waiting
    ∷ store 1 0 4101 118 ▸ waiting
    ∷ get 0 0 0 4294967295 1 0o777 (creat + excl) ▸ began 4 ⟫ to 3 call
    ∷ repeat 45 ▸ took ⟫ to 0 reply
    ∷ deliver 44 ▸ took ⟫ to 1 hand
    ∷ deliver 46 ▸ replied 4 (error Eexist)
    ∷ detach 1 0 ▸ began 1 ⟫ to 0 call
    ∷ deliver 48 ▸ took ⟫ to 1 reply
    ∷ deliver 47 ▸ took ⟫ to 2 page
    ∷ deliver 50 ▸ took ⟫ to 0 confirm
    ∷ load 4 0 0 ▸ refused 14
    ∷ deliver 51 ▸ took
    ∷ load 0 1 5 ▸ fault ⟫ to 0 ask
    ∷ deliver 49 ▸ replied 1 ok
    ∷ repeat 52 ▸ took ⟫ to 2 hand
    ∷ repeat 53 ▸ took ⟫ to 0 page
    ∷ repeat 54 ▸ took ⟫ to 0 confirm
    ∷ store 0 1 5 202 ▸ refused 10
    ∷ tick 0 ▸ took ⟫ to 2 hand
    ∷ deliver 45 ▸ took ⟫ to 0 reply
    ∷ attach 1 0 1 3 rw ▸ began 2 ⟫ to 3 call
    ∷ attach 0 0 0 262144 ro ▸ began 5 ⟫ to 0 call
    ∷ detach 2 2 ▸ began 3 ⟫ to 0 call
    ∷ deliver 52 ▸ dropped
    ∷ lose 59 ▸ took
    ∷ repeat 57 ▸ dropped
    ∷ deliver 58 ▸ took ⟫ to 1 reply
    ∷ deliver 4294967295 ▸ refused 15
    ∷ []
