-- Random scripts; what they answer and send comes from an independent program.
use Rattle.std.specs.Prelude.{List, [], ◌∷◌, ◌+◌}
use Rattle.shm_model.specs.declared.call.Errno.TheVariants.{Einval}
use Rattle.shm_laws.specs.Rows.Script.{Line, ask, clear, cleared, hand, page, confirm, call, reply}
use Rattle.shm_laws.specs.Rows.Words.{◌▸◌, ◌⟫◌, attach, attached, began, byte, creat, deliver, detach, dropped, error, excl, fault, get, id, load, lose, ok, refused, repeat, replied, restart, ro, rw, set, stat, store, stored, tick, to, took, waiting}

-- 2 sites, 1 page, 1 frame, 104 events
abbrev pub fifth_random_script : List Line
fifth_random_script =
    load 1 0 0 ▸ fault ⟫ to 0 ask
    ∷ load 1 0 5 ▸ waiting
    ∷ restart 1 ▸ took
    ∷ attach 0 2 1 0 rw ▸ began 1 ⟫ to 0 call
    ∷ load 1 0 0 ▸ fault ⟫ to 0 ask
    ∷ repeat 3 ▸ refused 15
    ∷ get 0 0 0 4294967295 1 0o777 (creat + excl) ▸ refused 8
    ∷ deliver 2 ▸ took ⟫ to 0 hand
    ∷ deliver 3 ▸ took ⟫ to 1 page
    ∷ store 1 0 5 96 ▸ fault ⟫ to 0 ask
    ∷ repeat 5 ▸ took
    ∷ repeat 5 ▸ dropped
    ∷ deliver 5 ▸ dropped
    ∷ repeat 4 ▸ took ⟫ to 0 confirm
    ∷ repeat 6 ▸ took ⟫ to 0 hand
    ∷ store 1 0 0 155 ▸ waiting
    ∷ load 1 0 5 ▸ byte 0
    ∷ repeat 1 ▸ took ⟫ to 0 reply
    ∷ deliver 8 ▸ attached 1 1 4096 rw
    ∷ repeat 7 ▸ took ⟫ to 1 page
    ∷ deliver 9 ▸ took ⟫ to 0 confirm
    ∷ load 1 0 0 ▸ byte 0
    ∷ load 1 0 5 ▸ byte 0
    ∷ deliver 10 ▸ took
    ∷ load 0 0 0 ▸ fault ⟫ to 0 ask
    ∷ load 0 0 0 ▸ waiting
    ∷ repeat 11 ▸ took ⟫ to 1 hand
    ∷ repeat 12 ▸ took ⟫ to 0 page
    ∷ deliver 13 ▸ took ⟫ to 0 confirm
    ∷ lose 14 ▸ took
    ∷ deliver 0 ▸ dropped
    ∷ set 1 0 0 0 1 1 0o666 ▸ began 1 ⟫ to 0 call
    ∷ lose 15 ▸ took
    ∷ deliver 12 ▸ took ⟫ to 0 page
    ∷ tick 2 ▸ refused 14
    ∷ deliver 16 ▸ took ⟫ to 0 confirm
    ∷ repeat 17 ▸ took
    ∷ deliver 17 ▸ dropped
    ∷ repeat 11 ▸ dropped
    ∷ deliver 11 ▸ dropped
    ∷ repeat 7 ▸ dropped
    ∷ stat 0 0 0 4294967295 ▸ began 2 ⟫ to 1 call
    ∷ repeat 18 ▸ took ⟫ to 0 reply
    ∷ load 1 0 0 ▸ byte 0
    ∷ lose 19 ▸ took
    ∷ deliver 4294967295 ▸ refused 15
    ∷ lose 18 ▸ took
    ∷ load 1 0 5 ▸ byte 0
    ∷ deliver 7 ▸ dropped
    ∷ repeat 6 ▸ dropped
    ∷ repeat 6 ▸ dropped
    ∷ deliver 6 ▸ dropped
    ∷ tick 1 ▸ took ⟫ to 0 call
    ∷ attach 2 0 0 0 rw ▸ refused 14
    ∷ load 1 0 0 ▸ byte 0
    ∷ load 1 0 1 ▸ byte 0
    ∷ get 0 0 0 1 4096 0o600 (creat + excl) ▸ refused 8
    ∷ deliver 20 ▸ took ⟫ to 1 reply
    ∷ load 1 0 5 ▸ byte 0
    ∷ repeat 21 ▸ replied 1 ok
    ∷ get 1 1 0 0 1 0o666 (creat + excl) ▸ began 2 ⟫ to 1 call
    ∷ attach 0 1 0 0 rw ▸ refused 8
    ∷ attach 0 1 1 0 rw ▸ refused 8
    ∷ repeat 22 ▸ took ⟫ to 1 reply
    ∷ repeat 23 ▸ replied 2 (id 1)
    ∷ lose 21 ▸ took
    ∷ lose 23 ▸ took
    ∷ load 0 1 0 ▸ byte 0
    ∷ deliver 1 ▸ took ⟫ to 0 reply
    ∷ stat 0 2 0 13 ▸ refused 8
    ∷ repeat 24 ▸ dropped
    ∷ repeat 24 ▸ dropped
    ∷ detach 0 1 ▸ refused 8
    ∷ deliver 24 ▸ dropped
    ∷ deliver 22 ▸ took ⟫ to 1 reply
    ∷ repeat 25 ▸ dropped
    ∷ deliver 25 ▸ dropped
    ∷ deliver 4 ▸ dropped
    ∷ load 0 1 5 ▸ byte 0
    ∷ restart 0 ▸ took
    ∷ attach 0 1 1 1 rw ▸ refused 8
    ∷ load 1 0 1 ▸ byte 0
    ∷ load 1 0 0 ▸ byte 0
    ∷ store 1 0 1 139 ▸ fault ⟫ to 0 ask
    ∷ deliver 26 ▸ took ⟫ to 0 clear
    ∷ deliver 27 ▸ took ⟫ to 0 cleared
    ∷ detach 1 0 ▸ began 3 ⟫ to 0 call
    ∷ repeat 29 ▸ took ⟫ to 1 reply
    ∷ deliver 30 ▸ replied 3 ok
    ∷ repeat 28 ▸ took ⟫ to 1 hand
    ∷ repeat 31 ▸ took ⟫ to 0 confirm
    ∷ repeat 32 ▸ took
    ∷ deliver 32 ▸ dropped
    ∷ store 1 1 5 105 ▸ refused 9
    ∷ deliver 31 ▸ took ⟫ to 0 confirm
    ∷ repeat 33 ▸ dropped
    ∷ repeat 33 ▸ dropped
    ∷ repeat 28 ▸ dropped
    ∷ repeat 33 ▸ dropped
    ∷ store 1 2 0 98 ▸ refused 9
    ∷ detach 0 0 ▸ refused 8
    ∷ attach 0 0 0 131072 ro ▸ refused 8
    ∷ stat 0 0 0 0 ▸ refused 8
    ∷ repeat 33 ▸ dropped
    ∷ []

-- 2 sites, 2 pages, 1 frame, 110 events
abbrev pub sixth_random_script : List Line
sixth_random_script =
    restart 1 ▸ took
    ∷ load 0 0 5 ▸ byte 0
    ∷ repeat 0 ▸ refused 15
    ∷ load 1 0 0 ▸ fault ⟫ to 0 ask
    ∷ deliver 0 ▸ took ⟫ to 0 hand
    ∷ deliver 1 ▸ took ⟫ to 1 page
    ∷ repeat 2 ▸ took ⟫ to 0 confirm
    ∷ repeat 2 ▸ took ⟫ to 0 confirm
    ∷ deliver 3 ▸ took
    ∷ deliver 4 ▸ dropped
    ∷ set 1 0 1 18 1 1 0o066 ▸ began 1 ⟫ to 0 call
    ∷ repeat 5 ▸ took ⟫ to 1 reply
    ∷ deliver 6 ▸ replied 1 (error Einval)
    ∷ repeat 5 ▸ took ⟫ to 1 reply
    ∷ tick 1 ▸ took
    ∷ store 0 0 1 198 ▸ fault ⟫ to 0 ask
    ∷ repeat 7 ▸ dropped
    ∷ deliver 8 ▸ took ⟫ to 1 clear
    ∷ repeat 9 ▸ took ⟫ to 0 cleared
    ∷ deliver 10 ▸ took ⟫ to 0 hand
    ∷ repeat 11 ▸ took ⟫ to 0 confirm
    ∷ deliver 12 ▸ took
    ∷ deliver 9 ▸ took ⟫ to 0 cleared
    ∷ repeat 13 ▸ dropped
    ∷ load 1 0 5 ▸ fault ⟫ to 0 ask
    ∷ deliver 14 ▸ took ⟫ to 0 hand
    ∷ repeat 15 ▸ took ⟫ to 1 page
    ∷ deliver 16 ▸ took ⟫ to 0 confirm
    ∷ deliver 17 ▸ took
    ∷ deliver 15 ▸ took ⟫ to 1 page
    ∷ attach 1 0 1 0 rw ▸ began 2 ⟫ to 0 call
    ∷ load 0 0 0 ▸ byte 0
    ∷ attach 1 1 0 0 rw ▸ refused 8
    ∷ restart 1 ▸ took
    ∷ deliver 18 ▸ took ⟫ to 0 confirm
    ∷ deliver 19 ▸ took ⟫ to 1 reply
    ∷ deliver 21 ▸ attached 2 1 8192 rw
    ∷ deliver 20 ▸ dropped
    ∷ deliver 13 ▸ dropped
    ∷ repeat 11 ▸ dropped
    ∷ tick 0 ▸ took
    ∷ deliver 11 ▸ dropped
    ∷ repeat 5 ▸ dropped
    ∷ tick 0 ▸ took
    ∷ tick 1 ▸ took
    ∷ repeat 7 ▸ dropped
    ∷ restart 1 ▸ took
    ∷ deliver 2 ▸ dropped
    ∷ deliver 5 ▸ dropped
    ∷ tick 0 ▸ took
    ∷ deliver 7 ▸ dropped
    ∷ load 0 0 4096 ▸ fault ⟫ to 1 ask
    ∷ deliver 22 ▸ took ⟫ to 1 hand
    ∷ restart 1 ▸ took
    ∷ attach 0 1 1 0 rw ▸ began 1 ⟫ to 0 call
    ∷ repeat 24 ▸ took ⟫ to 0 reply
    ∷ deliver 23 ▸ took ⟫ to 0 page
    ∷ store 0 0 4101 127 ▸ fault ⟫ to 1 ask
    ∷ deliver 27 ▸ took
    ∷ deliver 26 ▸ took ⟫ to 1 confirm
    ∷ restart 1 ▸ took
    ∷ deliver 28 ▸ took
    ∷ deliver 25 ▸ attached 1 1 8192 rw
    ∷ repeat 24 ▸ took ⟫ to 0 reply
    ∷ get 0 0 1 0 4097 0o600 (creat + excl) ▸ began 2 ⟫ to 0 call
    ∷ deliver 29 ▸ dropped
    ∷ deliver 30 ▸ took ⟫ to 0 reply
    ∷ store 1 0 1 184 ▸ fault ⟫ to 0 ask
    ∷ deliver 31 ▸ replied 2 (id 2)
    ∷ deliver 32 ▸ took ⟫ to 0 hand
    ∷ deliver 33 ▸ took ⟫ to 1 page
    ∷ repeat 34 ▸ took ⟫ to 0 confirm
    ∷ deliver 35 ▸ took
    ∷ deliver 24 ▸ dropped
    ∷ attach 0 0 0 2 ro ▸ began 3 ⟫ to 0 call
    ∷ deliver 36 ▸ took ⟫ to 0 reply
    ∷ repeat 37 ▸ attached 3 2 4097 ro
    ∷ deliver 37 ▸ dropped
    ∷ restart 1 ▸ took
    ∷ repeat 34 ▸ took ⟫ to 0 confirm
    ∷ repeat 38 ▸ dropped
    ∷ repeat 38 ▸ dropped
    ∷ deliver 34 ▸ took ⟫ to 0 confirm
    ∷ repeat 39 ▸ dropped
    ∷ detach 0 0 ▸ began 4 ⟫ to 0 call
    ∷ deliver 40 ▸ took ⟫ to 0 reply
    ∷ deliver 41 ▸ replied 4 ok
    ∷ restart 1 ▸ took
    ∷ deliver 38 ▸ dropped
    ∷ deliver 39 ▸ dropped
    ∷ load 1 0 4097 ▸ byte 0
    ∷ store 0 2 0 162 ▸ refused 10
    ∷ load 0 2 1 ▸ byte 0
    ∷ load 1 0 4101 ▸ byte 0
    ∷ load 0 0 0 ▸ refused 9
    ∷ store 0 1 4096 67 ▸ waiting
    ∷ load 1 1 4101 ▸ byte 0
    ∷ store 0 1 4097 107 ▸ waiting
    ∷ load 1 0 4097 ▸ byte 0
    ∷ store 1 0 1 170 ▸ stored
    ∷ load 0 2 4097 ▸ fault ⟫ to 1 ask
    ∷ deliver 42 ▸ took ⟫ to 1 hand
    ∷ tick 1 ▸ took ⟫ to 1 hand
    ∷ load 1 1 4101 ▸ byte 0
    ∷ load 0 2 4097 ▸ waiting
    ∷ repeat 43 ▸ took ⟫ to 0 page
    ∷ repeat 44 ▸ took ⟫ to 0 page
    ∷ attach 1 0 1 2 rw ▸ began 3 ⟫ to 0 call
    ∷ deliver 47 ▸ took ⟫ to 1 reply
    ∷ repeat 48 ▸ attached 3 2 4097 rw
    ∷ []
