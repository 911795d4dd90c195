-- Random scripts; what they answer and send comes from an independent program.
use Rattle.std.specs.Prelude.{List, [], ◌∷◌, ◌+◌}
use Rattle.shm_model.specs.declared.call.Errno.TheVariants.{Eidrm, Enoent, Eperm}
use Rattle.shm_laws.specs.Rows.Script.{Line, ask, hand, page, confirm, call, reply, purge, purged}
use Rattle.shm_laws.specs.Rows.Words.{◌▸◌, ◌⟫◌, ◌&◌, attach, attached, began, byte, creat, deliver, detach, dropped, error, excl, fault, get, id, load, lose, ok, refused, remove, repeat, replied, ro, rw, set, store, stored, tick, to, took, waiting}

-- 4 sites, 1 page, 1 frame, 106 events
abbrev pub third_random_script : List Line
third_random_script =
    store 3 0 5 237 ▸ fault ⟫ to 0 ask
    ∷ repeat 0 ▸ took ⟫ to 0 hand
    ∷ deliver 1 ▸ took ⟫ to 3 page
    ∷ load 1 0 0 ▸ fault ⟫ to 0 ask
    ∷ deliver 3 ▸ took
    ∷ load 0 0 1 ▸ fault ⟫ to 0 ask
    ∷ deliver 4 ▸ took
    ∷ store 1 0 5 145 ▸ fault ⟫ to 0 ask
    ∷ repeat 5 ▸ took
    ∷ get 0 0 0 4294967295 1 0o777 (creat + excl) ▸ began 1 ⟫ to 3 call
    ∷ store 0 0 1 74 ▸ fault ⟫ to 0 ask
    ∷ repeat 7 ▸ took
    ∷ load 2 0 1 ▸ fault ⟫ to 0 ask
    ∷ deliver 8 ▸ took
    ∷ repeat 6 ▸ took ⟫ to 0 reply
    ∷ store 4294967295 0 0 1 ▸ refused 14
    ∷ detach 3 0 ▸ began 1 ⟫ to 0 call
    ∷ load 0 0 1 ▸ waiting
    ∷ attach 0 2 1 3 rw ▸ refused 8
    ∷ tick 0 ▸ took ⟫ to 0 ask & to 0 hand & to 3 call
    ∷ load 2 0 0 ▸ waiting
    ∷ repeat 13 ▸ took ⟫ to 0 reply
    ∷ load 2 0 0 ▸ waiting
    ∷ deliver 14 ▸ replied 1 (id 3)
    ∷ repeat 13 ▸ took ⟫ to 0 reply
    ∷ attach 3 0 0 0 rw ▸ refused 8
    ∷ repeat 10 ▸ took ⟫ to 3 reply
    ∷ load 2 0 5 ▸ waiting
    ∷ deliver 16 ▸ replied 1 ok
    ∷ load 2 0 0 ▸ waiting
    ∷ load 3 0 0 ▸ refused 9
    ∷ deliver 10 ▸ took ⟫ to 3 reply
    ∷ set 3 1 0 0 0 1 0o444 ▸ began 2 ⟫ to 0 call
    ∷ deliver 18 ▸ took ⟫ to 3 reply
    ∷ load 3 0 0 ▸ refused 9
    ∷ load 3 0 5 ▸ refused 9
    ∷ detach 0 0 ▸ began 2 ⟫ to 0 call
    ∷ deliver 20 ▸ took ⟫ to 0 reply
    ∷ load 0 0 0 ▸ refused 9
    ∷ store 1 0 1 205 ▸ waiting
    ∷ repeat 21 ▸ replied 2 ok
    ∷ load 0 2 5 ▸ refused 9
    ∷ lose 21 ▸ took
    ∷ load 0 1 1 ▸ refused 9
    ∷ repeat 19 ▸ replied 2 (error Eperm)
    ∷ remove 0 0 1 3 ▸ began 3 ⟫ to 3 call
    ∷ repeat 22 ▸ took ⟫ to 0 reply & to 0 purge & to 1 purge & to 2 purge & to 3 purge
    ∷ repeat 27 ▸ took ⟫ to 3 purged
    ∷ load 0 0 5 ▸ refused 9
    ∷ load 0 0 1 ▸ refused 9
    ∷ repeat 28 ▸ took
    ∷ deliver 28 ▸ dropped
    ∷ deliver 26 ▸ took ⟫ to 3 purged
    ∷ load 1 0 1 ▸ waiting
    ∷ deliver 29 ▸ took
    ∷ load 3 2 5 ▸ refused 9
    ∷ attach 0 2 0 0 ro ▸ refused 8
    ∷ tick 2 ▸ took ⟫ to 0 ask
    ∷ deliver 7 ▸ dropped
    ∷ load 3 1 0 ▸ refused 9
    ∷ get 0 0 0 7 4096 0o600 creat ▸ refused 8
    ∷ repeat 30 ▸ dropped
    ∷ deliver 30 ▸ dropped
    ∷ deliver 25 ▸ took ⟫ to 3 purged
    ∷ repeat 31 ▸ took
    ∷ load 2 2 1 ▸ refused 9
    ∷ lose 31 ▸ took
    ∷ load 0 2 0 ▸ refused 9
    ∷ repeat 27 ▸ took ⟫ to 3 purged
    ∷ load 0 0 5 ▸ refused 9
    ∷ load 0 2 5 ▸ refused 9
    ∷ deliver 32 ▸ dropped
    ∷ repeat 27 ▸ took ⟫ to 3 purged
    ∷ repeat 33 ▸ dropped
    ∷ lose 33 ▸ took
    ∷ load 0 0 4294967295 ▸ refused 9
    ∷ repeat 27 ▸ took ⟫ to 3 purged
    ∷ load 2 0 5 ▸ waiting
    ∷ tick 0 ▸ took ⟫ to 0 ask & to 0 hand & to 3 call
    ∷ store 0 1 1 180 ▸ refused 9
    ∷ load 2 0 5 ▸ waiting
    ∷ lose 37 ▸ took
    ∷ repeat 36 ▸ took ⟫ to 3 page
    ∷ deliver 38 ▸ took ⟫ to 0 confirm
    ∷ load 1 0 0 ▸ waiting
    ∷ tick 0 ▸ took ⟫ to 0 ask & to 0 hand & to 3 call
    ∷ remove 3 1 0 3 ▸ began 3 ⟫ to 3 call
    ∷ repeat 43 ▸ took ⟫ to 3 reply
    ∷ repeat 44 ▸ replied 3 (error Eidrm)
    ∷ get 1 0 0 7 1 0o777 (creat + excl) ▸ began 1 ⟫ to 3 call
    ∷ load 0 2 1 ▸ refused 9
    ∷ repeat 45 ▸ took ⟫ to 1 reply
    ∷ deliver 42 ▸ took ⟫ to 0 reply
    ∷ load 0 2 1 ▸ refused 9
    ∷ deliver 47 ▸ replied 3 ok
    ∷ attach 2 2 0 0 ro ▸ began 1 ⟫ to 0 call
    ∷ set 3 0 0 7 0 1 0o066 ▸ began 4 ⟫ to 3 call
    ∷ lose 49 ▸ took
    ∷ deliver 48 ▸ took ⟫ to 2 reply
    ∷ repeat 50 ▸ attached 1 1 4096 ro
    ∷ store 2 0 5 84 ▸ fault ⟫ to 0 ask
    ∷ load 3 2 5 ▸ refused 9
    ∷ repeat 51 ▸ took
    ∷ load 3 1 0 ▸ refused 9
    ∷ get 0 0 0 1 4097 0o006 creat ▸ began 4 ⟫ to 1 call
    ∷ attach 1 1 0 7 rw ▸ refused 8
    ∷ []

-- 2 sites, 1 page, 104 events
abbrev pub fourth_random_script : List Line
fourth_random_script =
    store 0 0 4095 9 ▸ stored
    ∷ load 1 0 4095 ▸ fault ⟫ to 0 ask
    ∷ deliver 0 ▸ took ⟫ to 0 hand
    ∷ repeat 1 ▸ took ⟫ to 1 page
    ∷ detach 0 0 ▸ began 1 ⟫ to 0 call
    ∷ deliver 2 ▸ took ⟫ to 0 confirm
    ∷ store 1 0 0 9 ▸ fault ⟫ to 0 ask
    ∷ deliver 5 ▸ took
    ∷ get 1 0 0 0 4097 0o006 creat ▸ began 1 ⟫ to 1 call
    ∷ deliver 6 ▸ took ⟫ to 1 reply
    ∷ tick 1 ▸ took ⟫ to 0 ask & to 1 call
    ∷ deliver 4 ▸ took ⟫ to 0 hand
    ∷ deliver 3 ▸ took ⟫ to 0 reply
    ∷ tick 0 ▸ took ⟫ to 0 hand & to 0 call
    ∷ deliver 7 ▸ replied 1 (id 1)
    ∷ deliver 8 ▸ dropped
    ∷ repeat 13 ▸ took ⟫ to 0 reply
    ∷ repeat 11 ▸ replied 1 ok
    ∷ tick 1 ▸ took ⟫ to 0 ask
    ∷ deliver 9 ▸ took ⟫ to 1 reply
    ∷ load 1 0 4095 ▸ byte 9
    ∷ deliver 16 ▸ dropped
    ∷ deliver 15 ▸ dropped
    ∷ deliver 14 ▸ dropped
    ∷ deliver 12 ▸ took ⟫ to 1 page
    ∷ deliver 10 ▸ took ⟫ to 1 page
    ∷ load 1 0 0 ▸ byte 0
    ∷ deliver 17 ▸ took ⟫ to 0 confirm
    ∷ deliver 19 ▸ took
    ∷ deliver 18 ▸ took ⟫ to 0 confirm
    ∷ deliver 20 ▸ dropped
    ∷ deliver 11 ▸ dropped
    ∷ get 0 0 0 4294967295 1 0o777 (creat + excl) ▸ began 2 ⟫ to 1 call
    ∷ deliver 21 ▸ took ⟫ to 0 reply
    ∷ deliver 22 ▸ replied 2 (id 3)
    ∷ repeat 23 ▸ refused 15
    ∷ deliver 13 ▸ took ⟫ to 0 reply
    ∷ deliver 23 ▸ dropped
    ∷ store 1 0 1 11 ▸ stored
    ∷ remove 0 0 0 1 ▸ began 3 ⟫ to 1 call
    ∷ deliver 24 ▸ took ⟫ to 0 reply & to 0 purge & to 1 purge
    ∷ remove 0 2 1 1 ▸ refused 8
    ∷ deliver 26 ▸ took ⟫ to 1 purged
    ∷ store 1 0 1 18 ▸ stored
    ∷ deliver 27 ▸ took ⟫ to 1 purged
    ∷ deliver 25 ▸ replied 3 ok
    ∷ deliver 29 ▸ took
    ∷ repeat 28 ▸ took
    ∷ deliver 1 ▸ dropped
    ∷ deliver 28 ▸ dropped
    ∷ load 0 1 0 ▸ refused 9
    ∷ store 0 2 4095 197 ▸ refused 9
    ∷ load 0 2 4095 ▸ refused 9
    ∷ load 0 1 1 ▸ refused 9
    ∷ load 1 0 1 ▸ byte 18
    ∷ store 1 0 4095 77 ▸ stored
    ∷ detach 1 0 ▸ began 2 ⟫ to 0 call
    ∷ deliver 30 ▸ took ⟫ to 1 reply
    ∷ deliver 31 ▸ replied 2 ok
    ∷ load 0 0 0 ▸ refused 9
    ∷ tick 2 ▸ refused 14
    ∷ deliver 0 ▸ refused 15
    ∷ load 1 0 1 ▸ refused 9
    ∷ get 1 0 1 7 1 0o640 0 ▸ began 3 ⟫ to 1 call
    ∷ load 0 0 0 ▸ refused 9
    ∷ tick 0 ▸ took
    ∷ deliver 32 ▸ took ⟫ to 1 reply
    ∷ deliver 33 ▸ replied 3 (error Enoent)
    ∷ store 1 0 0 43 ▸ refused 9
    ∷ store 0 1 4095 47 ▸ refused 9
    ∷ load 0 2 4095 ▸ refused 9
    ∷ tick 0 ▸ took
    ∷ store 0 2 1 62 ▸ refused 9
    ∷ attach 1 0 1 3 rw ▸ began 4 ⟫ to 1 call
    ∷ tick 1 ▸ took ⟫ to 1 call
    ∷ tick 1 ▸ took ⟫ to 1 call
    ∷ deliver 35 ▸ took ⟫ to 1 reply
    ∷ deliver 36 ▸ took ⟫ to 1 reply
    ∷ remove 0 0 0 1 ▸ began 4 ⟫ to 1 call
    ∷ get 1 0 0 0 12288 0o000 creat ▸ refused 8
    ∷ deliver 34 ▸ took ⟫ to 1 reply
    ∷ deliver 37 ▸ attached 4 0 1 rw
    ∷ deliver 38 ▸ dropped
    ∷ repeat 39 ▸ took ⟫ to 0 reply
    ∷ deliver 41 ▸ replied 4 (error Eidrm)
    ∷ repeat 40 ▸ dropped
    ∷ deliver 40 ▸ dropped
    ∷ tick 0 ▸ took
    ∷ deliver 39 ▸ took ⟫ to 0 reply
    ∷ deliver 42 ▸ dropped
    ∷ tick 0 ▸ took
    ∷ remove 0 1 0 1 ▸ began 5 ⟫ to 1 call
    ∷ attach 0 0 1 3 ro ▸ refused 8
    ∷ deliver 43 ▸ took ⟫ to 0 reply
    ∷ deliver 44 ▸ replied 5 (error Eidrm)
    ∷ store 0 1 1 174 ▸ refused 9
    ∷ store 0 0 0 25 ▸ refused 9
    ∷ load 1 0 0 ▸ byte 0
    ∷ detach 1 0 ▸ began 5 ⟫ to 1 call
    ∷ deliver 45 ▸ took ⟫ to 1 reply
    ∷ deliver 46 ▸ replied 5 ok
    ∷ store 0 1 4095 233 ▸ refused 9
    ∷ load 1 2 1 ▸ refused 9
    ∷ load 1 1 0 ▸ refused 9
    ∷ []
