use Rattle.std.proofs.Common.{◌≡◌, ◌∙◌, ℕ, option_map, subst, sym}
use Rattle.shm_process.specs.NodeOf.{node_of}
use Rattle.shm_seal.specs.NameOf.{name_of}
use Rattle.shm_journal.specs.Found.{Sound, found}
use Rattle.shm_journal.specs.Lines.{Header}
use Rattle.shm_journal.proofs.Whose.{found_of_header}
use Rattle.shm_command.proofs.shorten_journal.shortened_from.Goals as goal

pub shortened_journal-requires-clause-sites : goal.shortened_journal-requires-clause-sites
shortened_journal-requires-clause-sites g c =
    let header : Header = record { sites = c.args.sites; me = c.args.me; pages = c.args.header.pages; cluster = option_map name_of c.args.header.cluster } in
    let led = c.in-Ok.ensures.found in
    sym c.requires.sites ∙ sym (found_of_header header led.0 (node_of c.in-Ok.found.node) led.2.0).0

pub shortened_journal-requires-clause-me : goal.shortened_journal-requires-clause-me
shortened_journal-requires-clause-me g c =
    let header : Header = record { sites = c.args.sites; me = c.args.me; pages = c.args.header.pages; cluster = option_map name_of c.args.header.cluster } in
    let led = c.in-Ok.ensures.found in
    sym c.requires.me ∙ sym (found_of_header header led.0 (node_of c.in-Ok.found.node) led.2.0).1

pub returns-in-Ok-shortened_journal : goal.returns-in-Ok-shortened_journal
returns-in-Ok-shortened_journal g c =
    let made : ℕ → ℕ → Header = λ sites me. record { sites = sites; me = me; pages = c.args.header.pages; cluster = option_map name_of c.args.header.cluster } in
    let node = node_of c.in-Ok.found.node in
    let led = c.in-Ok.ensures.found in
    record {
      file = led.0;
      known = led.1;
      node = node;
      sound = subst (λ (sites : ℕ). found (made sites c.args.header.me) led.0 ≡ Sound node) c.requires.sites
          (subst (λ (me : ℕ). found (made c.args.sites me) led.0 ≡ Sound node) c.requires.me led.2.0);
      shortens = c.in-Ok-shortened_journal.ensures.text;
    }
