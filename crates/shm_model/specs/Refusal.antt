-- The numbers of all refusals, those of the system's errors first (shmget(2), shmop(2), shmctl(2)).
use Rattle.std.specs.Prelude.{ℕ}
use Rattle.shm_model.specs.declared.call.Errno.{Errno}
use Rattle.shm_model.specs.declared.call.Errno.TheVariants.{Eacces, Eexist, Eidrm, Einval, Enoent, Enospc, Eperm}

abbrev pub errno_number : Errno → ℕ
errno_number Eacces = 1
errno_number Eexist = 2
errno_number Eidrm = 3
errno_number Einval = 4
errno_number Enoent = 5
errno_number Enospc = 6
errno_number Eperm = 7

-- a segment call of the site is outstanding
abbrev pub busy : ℕ
busy = 8

-- no such attachment stands
abbrev pub no_attachment : ℕ
no_attachment = 9

-- a store through a read-only attachment
abbrev pub read_only : ℕ
read_only = 10

-- an offset that the segment's pages don't have
abbrev pub out_of_segment : ℕ
out_of_segment = 11

-- the site has as many attachments as it may have
abbrev pub too_many_attachments : ℕ
too_many_attachments = 12

-- the greatest number of its kind was given
abbrev pub numbers_used_up : ℕ
numbers_used_up = 13

abbrev pub no_such_site : ℕ
no_such_site = 14

-- the envelope was never sent, or is gone
abbrev pub no_such_message : ℕ
no_such_message = 15

-- an envelope that its receiver can't have been sent, and a box that is another site's
abbrev pub foreign_message : ℕ
foreign_message = 16

abbrev pub out_of_memory : ℕ
out_of_memory = 17

-- a line that may not stand where it does, one of more than 200 bytes, and one after the last that there may be
abbrev pub bad_line : ℕ
bad_line = 18

abbrev pub line_too_long : ℕ
line_too_long = 19

abbrev pub too_many_lines : ℕ
too_many_lines = 20

-- a reader and a writer that answered an error
abbrev pub read_fault : ℕ
read_fault = 21

abbrev pub write_fault : ℕ
write_fault = 22

-- what an audit finds
abbrev pub unsent : ℕ
unsent = 23

abbrev pub stamp_order : ℕ
stamp_order = 24

abbrev pub forged : ℕ
forged = 25

-- a client tried as often as it does
abbrev pub gave_up : ℕ
gave_up = 26

-- a clock has no further stamp
abbrev pub clock_end : ℕ
clock_end = 27

-- fewer events stand than were to be taken back
abbrev pub past_beginning : ℕ
past_beginning = 28

-- the system gave no thread
abbrev pub no_thread : ℕ
no_thread = 29

-- an access that no receipt tells of
abbrev pub untold : ℕ
untold = 30

-- logs of other sites, or receipts of another workload
abbrev pub other_logs : ℕ
other_logs = 31
