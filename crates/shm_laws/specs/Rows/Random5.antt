-- Random scripts; what they answer and send comes from an independent program.
use Rattle.std.specs.Prelude.{List, [], ◌∷◌, ◌+◌}
use Rattle.shm_model.specs.declared.call.Errno.TheVariants.{Eacces, Eidrm, Einval, Enoent, Eperm}
use Rattle.shm_laws.specs.Rows.Script.{Line, ask, hand, page, confirm, call, reply, purge, purged}
use Rattle.shm_laws.specs.Rows.Words.{◌▸◌, ◌⟫◌, ◌&◌, attach, began, creat, deliver, detach, dropped, error, excl, fault, get, id, live, load, ok, refused, remove, repeat, replied, restart, ro, rw, set, stat, state, store, stored, tick, to, took}

-- 2 sites, 2 pages, 1 frame, 104 events
abbrev pub ninth_random_script : List Line
ninth_random_script =
    store 1 0 1 211 ▸ fault ⟫ to 0 ask
    ∷ repeat 0 ▸ took ⟫ to 0 hand
    ∷ deliver 1 ▸ took ⟫ to 1 page
    ∷ deliver 2 ▸ took ⟫ to 0 confirm
    ∷ deliver 3 ▸ took
    ∷ repeat 0 ▸ dropped
    ∷ repeat 0 ▸ dropped
    ∷ repeat 0 ▸ dropped
    ∷ repeat 0 ▸ dropped
    ∷ repeat 0 ▸ dropped
    ∷ deliver 0 ▸ dropped
    ∷ store 1 0 4096 198 ▸ stored
    ∷ detach 1 0 ▸ began 1 ⟫ to 0 call
    ∷ store 1 1 1 151 ▸ refused 9
    ∷ deliver 4 ▸ took ⟫ to 1 reply
    ∷ repeat 5 ▸ replied 1 ok
    ∷ repeat 5 ▸ dropped
    ∷ stat 0 0 0 0 ▸ began 1 ⟫ to 0 call
    ∷ repeat 6 ▸ took ⟫ to 0 reply
    ∷ deliver 7 ▸ replied 1 (state 0 0 0 0 0 0o666 8192 1 live)
    ∷ get 0 0 0 4294967295 1 0o777 (creat + excl) ▸ began 2 ⟫ to 1 call
    ∷ store 1 2 5 236 ▸ refused 9
    ∷ repeat 8 ▸ took ⟫ to 0 reply
    ∷ tick 1 ▸ took
    ∷ deliver 9 ▸ replied 2 (id 1)
    ∷ repeat 8 ▸ took ⟫ to 0 reply
    ∷ deliver 10 ▸ dropped
    ∷ set 1 0 0 0 0 1 0o666 ▸ began 2 ⟫ to 0 call
    ∷ tick 0 ▸ took
    ∷ repeat 11 ▸ took ⟫ to 1 reply
    ∷ set 0 0 1 1 0 0 0o066 ▸ began 3 ⟫ to 1 call
    ∷ tick 0 ▸ took ⟫ to 1 call
    ∷ tick 1 ▸ took ⟫ to 0 call
    ∷ deliver 15 ▸ took ⟫ to 1 reply
    ∷ store 1 0 5 238 ▸ refused 9
    ∷ repeat 13 ▸ took ⟫ to 0 reply
    ∷ deliver 17 ▸ replied 3 ok
    ∷ deliver 16 ▸ replied 2 ok
    ∷ repeat 14 ▸ took ⟫ to 0 reply
    ∷ repeat 18 ▸ dropped
    ∷ attach 1 0 0 1 rw ▸ began 3 ⟫ to 1 call
    ∷ repeat 19 ▸ took ⟫ to 1 reply
    ∷ deliver 20 ▸ replied 3 (error Eacces)
    ∷ get 1 0 0 2 1 0o006 creat ▸ began 4 ⟫ to 0 call
    ∷ tick 0 ▸ took
    ∷ detach 0 0 ▸ began 4 ⟫ to 0 call
    ∷ attach 0 0 0 0 rw ▸ refused 8
    ∷ repeat 22 ▸ took ⟫ to 0 reply
    ∷ store 0 0 0 239 ▸ refused 9
    ∷ store 0 0 0 144 ▸ refused 9
    ∷ repeat 21 ▸ took ⟫ to 1 reply
    ∷ repeat 24 ▸ replied 4 (id 2)
    ∷ attach 0 1 1 2 rw ▸ refused 8
    ∷ deliver 24 ▸ dropped
    ∷ store 1 2 1 109 ▸ refused 9
    ∷ repeat 23 ▸ replied 4 ok
    ∷ remove 1 1 1 2 ▸ began 5 ⟫ to 0 call
    ∷ store 0 2 5 246 ▸ refused 9
    ∷ repeat 25 ▸ took ⟫ to 1 reply
    ∷ repeat 26 ▸ replied 5 (error Eperm)
    ∷ store 1 1 5 49 ▸ refused 9
    ∷ store 0 1 1 40 ▸ refused 9
    ∷ deliver 12 ▸ dropped
    ∷ attach 1 0 0 1 rw ▸ began 6 ⟫ to 1 call
    ∷ repeat 27 ▸ took ⟫ to 1 reply
    ∷ repeat 28 ▸ replied 6 (error Eacces)
    ∷ store 1 1 5 86 ▸ refused 9
    ∷ deliver 28 ▸ dropped
    ∷ deliver 27 ▸ took ⟫ to 1 reply
    ∷ repeat 29 ▸ dropped
    ∷ repeat 29 ▸ dropped
    ∷ deliver 29 ▸ dropped
    ∷ store 1 0 1 105 ▸ refused 9
    ∷ get 0 0 0 1 4097 0o060 creat ▸ began 5 ⟫ to 1 call
    ∷ deliver 30 ▸ took ⟫ to 0 reply
    ∷ load 0 2 0 ▸ refused 9
    ∷ stat 0 2 0 0 ▸ refused 8
    ∷ repeat 31 ▸ replied 5 (id 3)
    ∷ remove 0 0 0 2 ▸ began 6 ⟫ to 0 call
    ∷ attach 0 0 0 131072 ro ▸ refused 8
    ∷ tick 1 ▸ took
    ∷ repeat 8 ▸ dropped
    ∷ load 0 1 5 ▸ refused 9
    ∷ stat 0 0 0 4294967295 ▸ refused 8
    ∷ load 0 0 4294967295 ▸ refused 9
    ∷ load 0 0 0 ▸ refused 9
    ∷ stat 0 2 1 1 ▸ refused 8
    ∷ store 1 0 1 24 ▸ refused 9
    ∷ tick 0 ▸ took ⟫ to 0 call
    ∷ store 0 2 5 57 ▸ refused 9
    ∷ load 0 1 5 ▸ refused 9
    ∷ store 0 0 0 240 ▸ refused 9
    ∷ deliver 33 ▸ took ⟫ to 0 reply & to 0 purge & to 1 purge
    ∷ deliver 36 ▸ took ⟫ to 0 purged
    ∷ repeat 37 ▸ took
    ∷ repeat 35 ▸ took ⟫ to 0 purged
    ∷ store 0 1 1 128 ▸ refused 9
    ∷ store 0 0 1 99 ▸ refused 9
    ∷ store 1 0 0 235 ▸ refused 9
    ∷ tick 0 ▸ took ⟫ to 0 call & to 0 purge
    ∷ deliver 40 ▸ took ⟫ to 0 purged
    ∷ repeat 41 ▸ took
    ∷ remove 1 0 0 3 ▸ began 7 ⟫ to 1 call
    ∷ repeat 42 ▸ took ⟫ to 1 reply & to 0 purge & to 1 purge
    ∷ []

-- 3 sites, 100 events
abbrev pub tenth_random_script : List Line
tenth_random_script =
    remove 1 0 1 0 ▸ began 1 ⟫ to 0 call
    ∷ get 2 0 0 7 0 0o666 excl ▸ began 1 ⟫ to 1 call
    ∷ deliver 1 ▸ took ⟫ to 2 reply
    ∷ repeat 2 ▸ replied 1 (error Enoent)
    ∷ deliver 0 ▸ took ⟫ to 1 reply
    ∷ restart 0 ▸ took
    ∷ deliver 3 ▸ replied 1 (error Einval)
    ∷ load 1 1 1 ▸ refused 9
    ∷ deliver 2 ▸ dropped
    ∷ load 1 2 5 ▸ refused 9
    ∷ store 0 1 0 62 ▸ refused 9
    ∷ store 0 0 0 64 ▸ refused 9
    ∷ attach 1 2 1 0 rw ▸ began 2 ⟫ to 0 call
    ∷ tick 2 ▸ took
    ∷ attach 0 0 0 196608 ro ▸ began 1 ⟫ to 0 call
    ∷ load 0 2 5 ▸ refused 9
    ∷ deliver 5 ▸ took ⟫ to 0 reply
    ∷ deliver 4 ▸ took ⟫ to 1 reply
    ∷ repeat 7 ▸ replied 2 (error Einval)
    ∷ repeat 6 ▸ replied 1 (error Einval)
    ∷ restart 2 ▸ took
    ∷ deliver 6 ▸ dropped
    ∷ repeat 7 ▸ dropped
    ∷ deliver 7 ▸ dropped
    ∷ load 1 2 0 ▸ refused 9
    ∷ remove 1 1 0 0 ▸ began 3 ⟫ to 0 call
    ∷ load 2 2 0 ▸ refused 9
    ∷ load 0 1 0 ▸ refused 9
    ∷ deliver 8 ▸ took ⟫ to 1 reply
    ∷ deliver 9 ▸ replied 3 (error Einval)
    ∷ restart 2 ▸ took
    ∷ load 1 2 5 ▸ refused 9
    ∷ load 1 0 5 ▸ refused 9
    ∷ repeat 0 ▸ refused 15
    ∷ remove 2 0 0 0 ▸ began 2 ⟫ to 0 call
    ∷ repeat 10 ▸ took ⟫ to 2 reply
    ∷ deliver 10 ▸ took ⟫ to 2 reply
    ∷ tick 2 ▸ took ⟫ to 0 call
    ∷ get 2 0 0 3 1048577 0o111 creat ▸ refused 8
    ∷ load 2 2 5 ▸ refused 9
    ∷ deliver 12 ▸ replied 2 (error Einval)
    ∷ repeat 13 ▸ took ⟫ to 2 reply
    ∷ repeat 14 ▸ dropped
    ∷ repeat 13 ▸ took ⟫ to 2 reply
    ∷ deliver 15 ▸ dropped
    ∷ deliver 11 ▸ dropped
    ∷ get 2 0 0 2 12288 0o666 0 ▸ began 3 ⟫ to 2 call
    ∷ load 2 1 0 ▸ refused 9
    ∷ load 0 1 0 ▸ refused 9
    ∷ load 0 1 1 ▸ refused 9
    ∷ remove 1 0 0 0 ▸ began 4 ⟫ to 0 call
    ∷ deliver 17 ▸ took ⟫ to 1 reply
    ∷ repeat 16 ▸ took ⟫ to 2 reply
    ∷ load 2 2 0 ▸ refused 9
    ∷ deliver 18 ▸ replied 4 (error Einval)
    ∷ store 0 0 0 91 ▸ refused 9
    ∷ get 0 0 0 7 4097 0o666 creat ▸ began 2 ⟫ to 1 call
    ∷ remove 2 0 0 0 ▸ refused 8
    ∷ load 1 0 1 ▸ refused 9
    ∷ deliver 19 ▸ replied 3 (error Enoent)
    ∷ load 0 2 5 ▸ refused 9
    ∷ store 0 1 5 8 ▸ refused 9
    ∷ load 0 2 1 ▸ refused 9
    ∷ deliver 16 ▸ took ⟫ to 2 reply
    ∷ deliver 21 ▸ dropped
    ∷ repeat 20 ▸ took ⟫ to 0 reply
    ∷ deliver 22 ▸ replied 2 (id 1)
    ∷ restart 0 ▸ took
    ∷ deliver 13 ▸ took ⟫ to 2 reply
    ∷ deliver 20 ▸ took ⟫ to 0 reply
    ∷ restart 1 ▸ took
    ∷ deliver 23 ▸ dropped
    ∷ remove 1 0 1 1 ▸ began 5 ⟫ to 1 call
    ∷ deliver 25 ▸ took ⟫ to 1 reply & to 0 purge & to 1 purge & to 2 purge
    ∷ load 2 1 0 ▸ refused 9
    ∷ deliver 27 ▸ took ⟫ to 1 purged
    ∷ repeat 30 ▸ took
    ∷ deliver 24 ▸ dropped
    ∷ repeat 26 ▸ replied 5 ok
    ∷ deliver 14 ▸ dropped
    ∷ tick 1 ▸ took ⟫ to 1 purge & to 2 purge
    ∷ deliver 31 ▸ took ⟫ to 1 purged
    ∷ deliver 32 ▸ took ⟫ to 1 purged
    ∷ deliver 28 ▸ took ⟫ to 1 purged
    ∷ repeat 34 ▸ took
    ∷ deliver 35 ▸ took
    ∷ repeat 33 ▸ dropped
    ∷ store 2 0 0 21 ▸ refused 9
    ∷ deliver 29 ▸ took ⟫ to 1 purged
    ∷ deliver 36 ▸ dropped
    ∷ repeat 34 ▸ dropped
    ∷ deliver 26 ▸ dropped
    ∷ load 2 1 5 ▸ refused 9
    ∷ load 0 1 0 ▸ refused 9
    ∷ load 2 1 5 ▸ refused 9
    ∷ deliver 30 ▸ dropped
    ∷ repeat 33 ▸ dropped
    ∷ attach 0 1 1 1 rw ▸ began 3 ⟫ to 1 call
    ∷ repeat 37 ▸ took ⟫ to 0 reply
    ∷ repeat 38 ▸ replied 3 (error Eidrm)
    ∷ []
