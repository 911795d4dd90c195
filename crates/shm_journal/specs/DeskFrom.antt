-- How a process begins with what it found in its journal.
use Rattle.std.specs.Prelude.{Bool, [], ◌∷◌, ◌++◌, if◌then◌else◌}
use Rattle.shm_process.specs.Desk.{Desk, greeting_at, restarted, with_record}
use Rattle.shm_process.specs.Node.{Node}
use Rattle.shm_process.specs.declared.process_counts.Start.{Start}
use Rattle.shm_process.specs.declared.site_opening.Opening.{Opening}
use Rattle.shm_seal.specs.Seal.{Seal}
use Rattle.shm_journal.specs.Lines.{Header, header_line}

-- the header is recorded, on a line of its own
abbrev pub with_header : Header → Desk → Desk
with_header header desk = with_record (header_line header ++ 10 ∷ []) desk

-- how the header's site was begun
abbrev pub opening_of : Header → Opening
opening_of header = record { site = header.me; sites = header.sites; pages = header.pages }

-- the site says that first
abbrev pub greeting_from : Header → Seal → Node → Start → Desk
greeting_from header seal node start = greeting_at seal node (opening_of header) start

-- an empty journal gets its header; and where steps may have been made, the site restarts
abbrev pub desk_from : Header → Seal → Bool → Node → Start → Desk
desk_from header seal is_new node start =
    if is_new then with_header header (greeting_from header seal node start) else restarted (greeting_from header seal node start)
