-- Random scripts; what they answer and send comes from an independent program.
use Rattle.std.specs.Prelude.{List, [], ◌∷◌, ◌+◌}
use Rattle.shm_model.specs.declared.call.Errno.TheVariants.{Eidrm, Einval, Enoent, Eperm}
use Rattle.shm_laws.specs.Rows.Script.{Line, ask, hand, page, confirm, call, reply, purge, purged}
use Rattle.shm_laws.specs.Rows.Words.{◌▸◌, ◌⟫◌, ◌&◌, attach, attached, began, byte, creat, deliver, detach, dropped, error, excl, fault, get, id, live, load, lose, ok, refused, remove, repeat, replied, restart, ro, rw, set, stat, state, store, stored, tick, to, took, waiting}

-- 2 sites, 3 pages, 1 frame, 104 events
abbrev pub first_random_script : List Line
first_random_script =
    tick 0 ▸ took
    ∷ load 0 0 4096 ▸ fault ⟫ to 1 ask
    ∷ detach 0 0 ▸ began 1 ⟫ to 0 call
    ∷ deliver 1 ▸ took ⟫ to 0 reply
    ∷ deliver 2 ▸ replied 1 ok
    ∷ tick 0 ▸ took ⟫ to 1 ask
    ∷ repeat 3 ▸ took ⟫ to 1 hand
    ∷ remove 0 0 0 0 ▸ began 2 ⟫ to 0 call
    ∷ repeat 5 ▸ took ⟫ to 0 reply
    ∷ repeat 6 ▸ replied 2 ok
    ∷ remove 0 0 1 0 ▸ began 3 ⟫ to 0 call
    ∷ repeat 7 ▸ took ⟫ to 0 reply
    ∷ remove 0 0 0 0 ▸ refused 8
    ∷ deliver 8 ▸ replied 3 ok
    ∷ get 1 1 0 0 0 0o777 0 ▸ began 1 ⟫ to 1 call
    ∷ repeat 9 ▸ took ⟫ to 1 reply
    ∷ deliver 10 ▸ replied 1 (error Einval)
    ∷ deliver 4 ▸ took ⟫ to 0 page
    ∷ repeat 0 ▸ dropped
    ∷ load 1 0 5 ▸ fault ⟫ to 0 ask
    ∷ deliver 12 ▸ took ⟫ to 0 hand
    ∷ tick 1 ▸ took ⟫ to 0 ask & to 1 hand
    ∷ repeat 15 ▸ took ⟫ to 0 page
    ∷ repeat 16 ▸ took ⟫ to 1 confirm
    ∷ repeat 17 ▸ took
    ∷ repeat 14 ▸ dropped
    ∷ tick 1 ▸ took ⟫ to 0 ask
    ∷ deliver 18 ▸ dropped
    ∷ repeat 17 ▸ dropped
    ∷ deliver 13 ▸ took ⟫ to 1 page
    ∷ deliver 19 ▸ took ⟫ to 0 confirm
    ∷ repeat 20 ▸ took
    ∷ load 1 0 8192 ▸ fault ⟫ to 0 ask
    ∷ get 1 0 0 0 0 0o000 creat ▸ began 2 ⟫ to 1 call
    ∷ deliver 22 ▸ took ⟫ to 1 reply
    ∷ tick 0 ▸ took
    ∷ get 1 0 0 2 1 0o000 (creat + excl) ▸ refused 8
    ∷ load 0 0 5 ▸ refused 9
    ∷ load 1 0 1 ▸ byte 0
    ∷ restart 0 ▸ took
    ∷ repeat 23 ▸ replied 2 (error Einval)
    ∷ load 0 0 0 ▸ refused 9
    ∷ deliver 21 ▸ took ⟫ to 0 hand
    ∷ load 0 0 0 ▸ refused 9
    ∷ load 1 0 1 ▸ byte 0
    ∷ deliver 24 ▸ took ⟫ to 1 page
    ∷ remove 0 0 1 0 ▸ began 4 ⟫ to 0 call
    ∷ load 0 1 5 ▸ refused 9
    ∷ deliver 26 ▸ took ⟫ to 0 reply
    ∷ repeat 27 ▸ replied 4 ok
    ∷ deliver 25 ▸ took ⟫ to 0 confirm
    ∷ load 1 0 4096 ▸ byte 0
    ∷ load 1 0 8192 ▸ byte 0
    ∷ repeat 28 ▸ took
    ∷ load 1 0 4096 ▸ byte 0
    ∷ deliver 11 ▸ took ⟫ to 1 confirm
    ∷ repeat 29 ▸ dropped
    ∷ detach 1 0 ▸ began 3 ⟫ to 0 call
    ∷ repeat 30 ▸ took ⟫ to 1 reply & to 0 purge & to 1 purge
    ∷ repeat 33 ▸ took ⟫ to 0 purged
    ∷ repeat 34 ▸ took
    ∷ set 0 0 0 0 1 1 0o200 ▸ began 5 ⟫ to 0 call
    ∷ deliver 35 ▸ took ⟫ to 0 reply
    ∷ repeat 31 ▸ replied 3 ok
    ∷ repeat 36 ▸ replied 5 (error Eidrm)
    ∷ repeat 32 ▸ took ⟫ to 0 purged
    ∷ deliver 37 ▸ took
    ∷ repeat 36 ▸ dropped
    ∷ repeat 36 ▸ dropped
    ∷ deliver 36 ▸ dropped
    ∷ repeat 34 ▸ dropped
    ∷ attach 1 0 1 0 rw ▸ began 4 ⟫ to 0 call
    ∷ deliver 38 ▸ took ⟫ to 1 reply
    ∷ load 1 1 1 ▸ refused 9
    ∷ repeat 39 ▸ replied 4 (error Eidrm)
    ∷ get 0 1 0 2 1 0o060 0 ▸ began 6 ⟫ to 0 call
    ∷ deliver 40 ▸ took ⟫ to 0 reply
    ∷ repeat 41 ▸ replied 6 (error Enoent)
    ∷ repeat 41 ▸ dropped
    ∷ repeat 41 ▸ dropped
    ∷ repeat 41 ▸ dropped
    ∷ deliver 41 ▸ dropped
    ∷ deliver 39 ▸ dropped
    ∷ load 0 0 0 ▸ refused 9
    ∷ deliver 34 ▸ dropped
    ∷ load 0 1 1 ▸ refused 9
    ∷ deliver 33 ▸ took ⟫ to 0 purged
    ∷ load 0 2 0 ▸ refused 9
    ∷ deliver 42 ▸ dropped
    ∷ store 1 1 0 143 ▸ refused 9
    ∷ load 0 0 1 ▸ refused 9
    ∷ repeat 32 ▸ took ⟫ to 0 purged
    ∷ store 0 2 0 54 ▸ refused 9
    ∷ load 1 2 5 ▸ refused 9
    ∷ load 1 0 5 ▸ refused 9
    ∷ load 0 0 4096 ▸ refused 9
    ∷ remove 0 0 0 0 ▸ began 7 ⟫ to 0 call
    ∷ deliver 44 ▸ took ⟫ to 0 reply
    ∷ attach 1 0 0 0 rw ▸ began 5 ⟫ to 0 call
    ∷ load 1 2 5 ▸ refused 9
    ∷ deliver 46 ▸ took ⟫ to 1 reply
    ∷ attach 0 2 0 0 ro ▸ refused 8
    ∷ repeat 47 ▸ replied 5 (error Eidrm)
    ∷ deliver 45 ▸ replied 7 (error Eidrm)
    ∷ []

-- 2 sites, 3 pages, 1 frame, 109 events
abbrev pub second_random_script : List Line
second_random_script =
    store 1 0 0 240 ▸ fault ⟫ to 0 ask
    ∷ repeat 0 ▸ took ⟫ to 0 hand
    ∷ repeat 1 ▸ took ⟫ to 1 page
    ∷ deliver 2 ▸ took ⟫ to 0 confirm
    ∷ get 0 0 1 0 4097 0o000 creat ▸ began 1 ⟫ to 0 call
    ∷ deliver 4 ▸ took ⟫ to 0 reply
    ∷ store 1 0 5 245 ▸ stored
    ∷ repeat 5 ▸ replied 1 (id 2)
    ∷ lose 3 ▸ took
    ∷ detach 1 0 ▸ began 1 ⟫ to 0 call
    ∷ deliver 6 ▸ took ⟫ to 1 reply
    ∷ repeat 7 ▸ replied 1 ok
    ∷ store 0 0 1 248 ▸ fault ⟫ to 0 ask
    ∷ store 0 0 1 140 ▸ waiting
    ∷ remove 1 0 1 2 ▸ began 2 ⟫ to 0 call
    ∷ remove 0 9 9 0 ▸ began 2 ⟫ to 0 call
    ∷ tick 1 ▸ took ⟫ to 0 call
    ∷ deliver 11 ▸ took ⟫ to 1 reply & to 0 purge & to 1 purge
    ∷ get 0 0 1 1 1 0o666 creat ▸ refused 8
    ∷ repeat 14 ▸ took ⟫ to 0 purged
    ∷ repeat 15 ▸ took
    ∷ repeat 13 ▸ took ⟫ to 0 purged
    ∷ deliver 16 ▸ took
    ∷ deliver 8 ▸ took
    ∷ deliver 15 ▸ dropped
    ∷ deliver 12 ▸ replied 2 ok
    ∷ remove 1 0 0 2 ▸ began 3 ⟫ to 0 call
    ∷ detach 0 0 ▸ refused 8
    ∷ attach 0 2 1 0 rw ▸ refused 8
    ∷ stat 0 0 1 2 ▸ refused 8
    ∷ load 1 1 0 ▸ refused 9
    ∷ deliver 9 ▸ took ⟫ to 1 reply
    ∷ tick 1 ▸ took ⟫ to 0 call
    ∷ detach 0 0 ▸ refused 8
    ∷ repeat 19 ▸ took ⟫ to 1 reply
    ∷ repeat 20 ▸ replied 3 (error Eidrm)
    ∷ deliver 18 ▸ dropped
    ∷ store 0 0 0 247 ▸ waiting
    ∷ repeat 17 ▸ took ⟫ to 1 reply
    ∷ repeat 21 ▸ dropped
    ∷ deliver 10 ▸ took ⟫ to 0 reply
    ∷ store 0 0 1 51 ▸ waiting
    ∷ remove 0 1 0 0 ▸ refused 8
    ∷ repeat 22 ▸ replied 2 (error Eperm)
    ∷ repeat 22 ▸ dropped
    ∷ repeat 22 ▸ dropped
    ∷ get 0 0 1 3 1048577 0o444 0 ▸ began 3 ⟫ to 1 call
    ∷ repeat 23 ▸ took ⟫ to 0 reply
    ∷ repeat 24 ▸ replied 3 (error Enoent)
    ∷ deliver 21 ▸ dropped
    ∷ get 0 0 1 2 0 0o600 0 ▸ began 4 ⟫ to 0 call
    ∷ repeat 26 ▸ refused 15
    ∷ store 0 0 12288 155 ▸ refused 11
    ∷ repeat 25 ▸ took ⟫ to 0 reply
    ∷ deliver 26 ▸ replied 4 (error Enoent)
    ∷ deliver 25 ▸ took ⟫ to 0 reply
    ∷ deliver 27 ▸ dropped
    ∷ repeat 24 ▸ dropped
    ∷ load 0 0 4294967295 ▸ refused 11
    ∷ repeat 24 ▸ dropped
    ∷ deliver 24 ▸ dropped
    ∷ deliver 7 ▸ dropped
    ∷ deliver 23 ▸ took ⟫ to 0 reply
    ∷ store 1 0 1 196 ▸ refused 9
    ∷ deliver 28 ▸ dropped
    ∷ deliver 14 ▸ took ⟫ to 0 purged
    ∷ repeat 29 ▸ dropped
    ∷ deliver 29 ▸ dropped
    ∷ tick 1 ▸ took
    ∷ repeat 22 ▸ dropped
    ∷ deliver 22 ▸ dropped
    ∷ deliver 20 ▸ dropped
    ∷ repeat 19 ▸ took ⟫ to 1 reply
    ∷ repeat 30 ▸ dropped
    ∷ detach 0 0 ▸ began 5 ⟫ to 0 call
    ∷ store 1 1 5 62 ▸ refused 9
    ∷ repeat 31 ▸ took ⟫ to 0 reply
    ∷ deliver 32 ▸ replied 5 ok
    ∷ attach 1 0 0 0 rw ▸ began 4 ⟫ to 0 call
    ∷ deliver 33 ▸ took ⟫ to 1 reply
    ∷ repeat 34 ▸ attached 4 0 12288 rw
    ∷ deliver 34 ▸ dropped
    ∷ store 0 2 0 142 ▸ refused 9
    ∷ get 1 0 1 7 4097 0o640 creat ▸ began 5 ⟫ to 1 call
    ∷ deliver 35 ▸ took ⟫ to 1 reply
    ∷ repeat 36 ▸ replied 5 (id 1)
    ∷ attach 1 0 0 1 rw ▸ began 6 ⟫ to 1 call
    ∷ deliver 37 ▸ took ⟫ to 1 reply
    ∷ store 1 0 0 99 ▸ stored
    ∷ deliver 38 ▸ attached 6 1 4097 rw
    ∷ tick 1 ▸ took
    ∷ repeat 36 ▸ dropped
    ∷ deliver 36 ▸ dropped
    ∷ stat 0 0 1 1 ▸ began 6 ⟫ to 1 call
    ∷ lose 39 ▸ took
    ∷ repeat 31 ▸ took ⟫ to 0 reply
    ∷ stat 1 2 1 0 ▸ began 7 ⟫ to 0 call
    ∷ deliver 41 ▸ took ⟫ to 1 reply
    ∷ attach 0 2 0 2 rw ▸ refused 8
    ∷ deliver 42 ▸ replied 7 (state 0 0 0 0 0 0o666 12288 1 live)
    ∷ deliver 40 ▸ dropped
    ∷ repeat 17 ▸ dropped
    ∷ repeat 31 ▸ took ⟫ to 0 reply
    ∷ deliver 43 ▸ dropped
    ∷ stat 1 0 1 19 ▸ began 8 ⟫ to 1 call
    ∷ repeat 44 ▸ took ⟫ to 1 reply
    ∷ repeat 45 ▸ replied 8 (error Einval)
    ∷ store 1 0 5 173 ▸ stored
    ∷ detach 1 1 ▸ began 9 ⟫ to 1 call
    ∷ []
