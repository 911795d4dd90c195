-- Segment calls and attachments.
use Rattle.std.specs.Prelude.{List, [], ◌∷◌, ◌+◌}
use Rattle.shm_model.specs.declared.call.Errno.TheVariants.{Eacces, Eexist, Einval, Enoent, Eperm}
use Rattle.shm_laws.specs.Rows.Script.{Line, call, reply, purge, purged}
use Rattle.shm_laws.specs.Rows.Words.{◌▸◌, ◌⟫◌, ◌&◌, attach, attached, began, byte, creat, deliver, detach, dropped, error, excl, get, id, live, load, ok, refused, remove, repeat, replied, restart, ro, rw, set, stat, state, store, stored, tick, to, took}

-- a segment is made and attached twice, once only to read
abbrev pub segment_calls : List Line
segment_calls =
    get 0 0 0 0 1 0o600 0 ▸ began 1 ⟫ to 0 call
    ∷ attach 0 0 0 0 rw ▸ refused 8
    ∷ deliver 0 ▸ took ⟫ to 0 reply
    ∷ deliver 1 ▸ replied 1 (id 0)
    ∷ attach 0 0 0 0 rw ▸ began 2 ⟫ to 0 call
    ∷ deliver 2 ▸ took ⟫ to 0 reply
    ∷ deliver 3 ▸ attached 2 0 1 rw
    ∷ store 0 0 4095 9 ▸ stored
    ∷ load 0 0 4096 ▸ refused 11
    ∷ attach 0 0 0 0 ro ▸ began 3 ⟫ to 0 call
    ∷ deliver 4 ▸ took ⟫ to 0 reply
    ∷ deliver 5 ▸ attached 3 1 1 ro
    ∷ store 0 1 4095 1 ▸ refused 10
    ∷ load 0 1 4095 ▸ byte 9
    ∷ []

-- get: sizes, flags, modes and keys
abbrev pub get_by_key : List Line
get_by_key =
    get 0 1 1 5 300 0o711 creat ▸ began 1 ⟫ to 0 call
    ∷ deliver 0 ▸ took ⟫ to 0 reply
    ∷ deliver 1 ▸ replied 1 (id 0)
    ∷ get 0 1 1 5 301 0o600 0 ▸ began 2 ⟫ to 0 call
    ∷ deliver 2 ▸ took ⟫ to 0 reply
    ∷ deliver 3 ▸ replied 2 (error Einval)
    ∷ get 0 1 1 5 300 0o600 excl ▸ began 3 ⟫ to 0 call
    ∷ deliver 4 ▸ took ⟫ to 0 reply
    ∷ deliver 5 ▸ replied 3 (id 0)
    ∷ get 0 2 2 5 300 0o111 0 ▸ began 4 ⟫ to 0 call
    ∷ deliver 6 ▸ took ⟫ to 0 reply
    ∷ deliver 7 ▸ replied 4 (id 0)
    ∷ get 0 2 2 5 300 0o011 (creat + excl) ▸ began 5 ⟫ to 0 call
    ∷ deliver 8 ▸ took ⟫ to 0 reply
    ∷ deliver 9 ▸ replied 5 (error Eexist)
    ∷ get 0 2 2 5 301 0o444 0 ▸ began 6 ⟫ to 0 call
    ∷ deliver 10 ▸ took ⟫ to 0 reply
    ∷ deliver 11 ▸ replied 6 (error Einval)
    ∷ get 0 2 2 5 300 0o444 0 ▸ began 7 ⟫ to 0 call
    ∷ deliver 12 ▸ took ⟫ to 0 reply
    ∷ deliver 13 ▸ replied 7 (error Eacces)
    ∷ stat 0 1 1 0 ▸ began 8 ⟫ to 0 call
    ∷ deliver 14 ▸ took ⟫ to 0 reply
    ∷ deliver 15 ▸ replied 8 (state 5 1 1 1 1 0o711 300 0 live)
    ∷ stat 0 2 1 0 ▸ began 9 ⟫ to 0 call
    ∷ deliver 16 ▸ took ⟫ to 0 reply
    ∷ deliver 17 ▸ replied 9 (error Eacces)
    ∷ get 0 1 1 0 300 0o600 0 ▸ began 10 ⟫ to 0 call
    ∷ deliver 18 ▸ took ⟫ to 0 reply
    ∷ deliver 19 ▸ replied 10 (id 1)
    ∷ get 0 1 1 0 300 0o600 excl ▸ began 11 ⟫ to 0 call
    ∷ deliver 20 ▸ took ⟫ to 0 reply
    ∷ deliver 21 ▸ replied 11 (id 2)
    ∷ remove 0 2 1 0 ▸ began 12 ⟫ to 0 call
    ∷ deliver 22 ▸ took ⟫ to 0 reply
    ∷ deliver 23 ▸ replied 12 (error Eperm)
    ∷ remove 0 1 9 0 ▸ began 13 ⟫ to 0 call
    ∷ deliver 24 ▸ took ⟫ to 0 reply & to 0 purge
    ∷ deliver 25 ▸ replied 13 ok
    ∷ get 0 1 1 5 1 0o600 0 ▸ began 14 ⟫ to 0 call
    ∷ deliver 26 ▸ took ⟫ to 0 purged
    ∷ deliver 27 ▸ took ⟫ to 0 reply
    ∷ get 0 1 1 6 0 0o600 0 ▸ refused 8
    ∷ deliver 28 ▸ took
    ∷ deliver 29 ▸ replied 14 (error Enoent)
    ∷ get 0 1 1 6 0 0o600 creat ▸ began 15 ⟫ to 0 call
    ∷ deliver 30 ▸ took ⟫ to 0 reply
    ∷ deliver 31 ▸ replied 15 (error Einval)
    ∷ get 0 1 1 7 9 0o700 creat ▸ began 16 ⟫ to 0 call
    ∷ deliver 32 ▸ took ⟫ to 0 reply
    ∷ deliver 33 ▸ replied 16 (id 3)
    ∷ get 0 2 2 7 9 0o111 0 ▸ began 17 ⟫ to 0 call
    ∷ deliver 34 ▸ took ⟫ to 0 reply
    ∷ deliver 35 ▸ replied 17 (id 3)
    ∷ []

-- one class of mode bits counts, alone
abbrev pub one_class_counts : List Line
one_class_counts =
    get 0 1 1 5 10 0o077 creat ▸ began 1 ⟫ to 0 call
    ∷ deliver 0 ▸ took ⟫ to 0 reply
    ∷ deliver 1 ▸ replied 1 (id 0)
    ∷ attach 0 1 1 0 ro ▸ began 2 ⟫ to 0 call
    ∷ deliver 2 ▸ took ⟫ to 0 reply
    ∷ deliver 3 ▸ replied 2 (error Eacces)
    ∷ attach 0 2 1 0 rw ▸ began 3 ⟫ to 0 call
    ∷ deliver 4 ▸ took ⟫ to 0 reply
    ∷ deliver 5 ▸ attached 3 0 10 rw
    ∷ attach 0 2 2 0 rw ▸ began 4 ⟫ to 0 call
    ∷ deliver 6 ▸ took ⟫ to 0 reply
    ∷ deliver 7 ▸ attached 4 1 10 rw
    ∷ set 0 1 1 0 7 8 0o407 ▸ began 5 ⟫ to 0 call
    ∷ deliver 8 ▸ took ⟫ to 0 reply
    ∷ deliver 9 ▸ replied 5 ok
    ∷ attach 0 1 1 0 ro ▸ began 6 ⟫ to 0 call
    ∷ deliver 10 ▸ took ⟫ to 0 reply
    ∷ deliver 11 ▸ attached 6 2 10 ro
    ∷ attach 0 1 1 0 rw ▸ began 7 ⟫ to 0 call
    ∷ deliver 12 ▸ took ⟫ to 0 reply
    ∷ deliver 13 ▸ replied 7 (error Eacces)
    ∷ attach 0 7 1 0 ro ▸ began 8 ⟫ to 0 call
    ∷ deliver 14 ▸ took ⟫ to 0 reply
    ∷ deliver 15 ▸ attached 8 3 10 ro
    ∷ attach 0 9 1 0 ro ▸ began 9 ⟫ to 0 call
    ∷ deliver 16 ▸ took ⟫ to 0 reply
    ∷ deliver 17 ▸ replied 9 (error Eacces)
    ∷ attach 0 9 8 0 ro ▸ began 10 ⟫ to 0 call
    ∷ deliver 18 ▸ took ⟫ to 0 reply
    ∷ deliver 19 ▸ replied 10 (error Eacces)
    ∷ attach 0 9 9 0 rw ▸ began 11 ⟫ to 0 call
    ∷ deliver 20 ▸ took ⟫ to 0 reply
    ∷ deliver 21 ▸ attached 11 4 10 rw
    ∷ stat 0 9 8 0 ▸ began 12 ⟫ to 0 call
    ∷ deliver 22 ▸ took ⟫ to 0 reply
    ∷ deliver 23 ▸ replied 12 (error Eacces)
    ∷ set 0 9 1 0 1 1 0o600 ▸ began 13 ⟫ to 0 call
    ∷ deliver 24 ▸ took ⟫ to 0 reply
    ∷ deliver 25 ▸ replied 13 (error Eperm)
    ∷ remove 0 9 1 0 ▸ began 14 ⟫ to 0 call
    ∷ deliver 26 ▸ took ⟫ to 0 reply
    ∷ deliver 27 ▸ replied 14 (error Eperm)
    ∷ []

-- a home restarts between two comings of one call: the kept reply goes again, and nothing is executed twice
abbrev pub home_restarts : List Line
home_restarts =
    get 0 0 0 3 256 0o600 creat ▸ began 1 ⟫ to 1 call
    ∷ repeat 0 ▸ took ⟫ to 0 reply
    ∷ restart 1 ▸ took
    ∷ deliver 0 ▸ took ⟫ to 0 reply
    ∷ deliver 2 ▸ replied 1 (id 1)
    ∷ deliver 1 ▸ dropped
    ∷ stat 0 0 0 3 ▸ began 2 ⟫ to 1 call
    ∷ deliver 3 ▸ took ⟫ to 0 reply
    ∷ deliver 4 ▸ replied 2 (error Einval)
    ∷ attach 0 0 0 1 rw ▸ began 3 ⟫ to 1 call
    ∷ deliver 5 ▸ took ⟫ to 0 reply
    ∷ deliver 6 ▸ attached 3 0 256 rw
    ∷ detach 0 0 ▸ began 4 ⟫ to 1 call
    ∷ repeat 7 ▸ took ⟫ to 0 reply
    ∷ restart 1 ▸ took
    ∷ deliver 7 ▸ took ⟫ to 0 reply
    ∷ restart 0 ▸ took
    ∷ deliver 9 ▸ replied 4 ok
    ∷ stat 0 0 0 1 ▸ began 5 ⟫ to 1 call
    ∷ deliver 10 ▸ took ⟫ to 0 reply
    ∷ restart 0 ▸ took
    ∷ tick 0 ▸ took ⟫ to 1 call
    ∷ deliver 12 ▸ took ⟫ to 0 reply
    ∷ deliver 13 ▸ replied 5 (state 3 0 0 0 0 0o600 256 0 live)
    ∷ []

-- identifiers that no home ever gave
abbrev pub unknown_identifiers : List Line
unknown_identifiers =
    stat 0 0 0 4294967295 ▸ began 1 ⟫ to 0 call
    ∷ deliver 0 ▸ took ⟫ to 0 reply
    ∷ deliver 1 ▸ replied 1 (error Einval)
    ∷ attach 1 0 0 196608 rw ▸ began 1 ⟫ to 0 call
    ∷ deliver 2 ▸ took ⟫ to 1 reply
    ∷ deliver 3 ▸ replied 1 (error Einval)
    ∷ remove 2 0 0 196607 ▸ began 1 ⟫ to 2 call
    ∷ deliver 4 ▸ took ⟫ to 2 reply
    ∷ deliver 5 ▸ replied 1 (error Einval)
    ∷ stat 0 0 0 3 ▸ began 2 ⟫ to 0 call
    ∷ deliver 6 ▸ took ⟫ to 0 reply
    ∷ deliver 7 ▸ replied 2 (error Einval)
    ∷ get 1 0 0 4294967295 1 0o600 creat ▸ began 2 ⟫ to 0 call
    ∷ deliver 8 ▸ took ⟫ to 1 reply
    ∷ deliver 9 ▸ replied 2 (id 3)
    ∷ get 1 0 0 0 1 0o600 0 ▸ began 3 ⟫ to 1 call
    ∷ deliver 10 ▸ took ⟫ to 1 reply
    ∷ deliver 11 ▸ replied 3 (id 1)
    ∷ get 1 0 0 4294967295 1 0o600 0 ▸ began 4 ⟫ to 0 call
    ∷ deliver 12 ▸ took ⟫ to 1 reply
    ∷ deliver 13 ▸ replied 4 (id 3)
    ∷ []
