use Rattle.std.proofs.Common.{◌<◌, [], ◌∷◌, is_some, length, take, refl, ap, subst, ◌∙◌, arith}
use Rattle.shm_process.specs.DeskOf.{desk_of}
use Rattle.shm_process.specs.Desk.{disagreement_in}
use Rattle.shm_journal.proofs.ServingLemmas.{begun, did_not_read, did_read, ended, never_published, not_published, not_taken, paused, read_failed, still_sound, stood, stood_on, went_on}
use Rattle.shm_journal.proofs.WarningLemmas.{still_noted, warned_done, warned_on}
use Rattle.shm_journal.specs.Acts.{Did, Read, around}
use Rattle.shm_journal.specs.Warning.{Warns}
use Rattle.shm_journal.proofs.process_loop.serve.Goals as goal

pub returns-in-Err-clause-served : goal.returns-in-Err-clause-served
returns-in-Err-clause-served g c =
    let remaining = g.R.Read.remaining in
    let contents = g.W.Write.contents in
    let acts = g.J.Journal.acts in
    never_published (desk_of c.args.desk.now) c.in-Err.fault (around (remaining c.args.reader.now) (contents c.args.writer.now) (acts c.args.journal.now))
    (around (remaining c.args.reader.now) (contents c.publish.new.writer) (acts c.publish.new.journal)) (c.in-Err.ensures.fault (remaining c.args.reader.now))

pub reads-init : goal.reads-init
reads-init g c =
    let remaining = g.R.Read.remaining in
    let contents = g.W.Write.contents in
    let acts = g.J.Journal.acts in
    record {
      serves = begun (desk_of c.args.desk.now) (desk_of c.publish.new.desk) (around (remaining c.args.reader.now) (contents c.args.writer.now) (acts c.args.journal.now))
          (around (remaining c.args.reader.now) (contents c.publish.new.writer) (acts c.publish.new.journal)) (c.in-Ok.ensures.done (remaining c.args.reader.now))
          c.in-Ok.ensures.cleared;
      sound = still_sound (desk_of c.args.desk.now) (desk_of c.publish.new.desk) c.in-Ok.ensures.cleared;
      room = refl;
      warns = subst (Warns (g.E.Write.contents c.args.errors.now) (g.E.Write.contents c.warn-warned.new.errors))
          (still_noted (desk_of c.args.desk.now) (desk_of c.publish.new.desk) c.in-Ok.ensures.cleared) c.warn-warned.ensures.warns;
      warned = c.warn-warned.ensures.done ∙ ap is_some (still_noted (desk_of c.args.desk.now) (desk_of c.publish.new.desk) c.in-Ok.ensures.cleared);
    }

pub returns-in_default-clause-served : goal.returns-in_default-clause-served
returns-in_default-clause-served g c =
    let remaining = g.R.Read.remaining in
    let contents = g.W.Write.contents in
    let acts = g.J.Journal.acts in
    read_failed (desk_of c.args.desk.now) (desk_of c.reads.desk) (around (remaining c.args.reader.now) (contents c.args.writer.now) (acts c.args.journal.now))
    (around (remaining c.reads.reader) (contents c.reads.writer) (acts c.reads.journal))
    (around (remaining c.read.new.reader) (contents c.reads.writer) (acts c.read.new.self)) c.reads.invariant.serves c.reads.invariant.sound
    (
    did_not_read (remaining c.reads.reader) (remaining c.read.new.reader) (contents c.reads.writer) (acts c.reads.journal) (acts c.read.new.self)
    c.in_default.ensures.unread c.in_default.ensures.none
    )

pub returns-then-count-eq0-clause-end : goal.returns-then-count-eq0-clause-end
returns-then-count-eq0-clause-end g c =
    let wide : 0 < length c.reads.chunk = omega (arith, c.reads.invariant.room) in
    c.in-Ok-read.ensures.end wide c.if-count-eq0.true

pub returns-then-count-eq0-clause-served : goal.returns-then-count-eq0-clause-served
returns-then-count-eq0-clause-served g c =
    let remaining = g.R.Read.remaining in
    let contents = g.W.Write.contents in
    let acts = g.J.Journal.acts in
    let before = around (remaining c.reads.reader) (contents c.reads.writer) (acts c.reads.journal) in
    let after = around (remaining c.read.new.reader) (contents c.reads.writer) (acts c.read.new.self) in
    let all : Did before after (Read (take c.in-Ok-read.count c.read.new.chunk) ∷ []) =
    did_read (remaining c.reads.reader) (remaining c.read.new.reader) (contents c.reads.writer) (acts c.reads.journal) (acts c.read.new.self) _
    c.in-Ok-read.ensures.read c.in-Ok-read.ensures.act in
    ended (desk_of c.args.desk.now) (desk_of c.reads.desk) (around (remaining c.args.reader.now) (contents c.args.writer.now) (acts c.args.journal.now)) before after
    c.reads.invariant.serves c.reads.invariant.sound (subst (λ n. Did before after (Read (take n c.read.new.chunk) ∷ [])) c.if-count-eq0.true all)

pub returns-then-count-eq0-clause-stands : goal.returns-then-count-eq0-clause-stands
returns-then-count-eq0-clause-stands g c =
    let remaining = g.R.Read.remaining in
    let contents = g.W.Write.contents in
    let acts = g.J.Journal.acts in
    let before = around (remaining c.reads.reader) (contents c.reads.writer) (acts c.reads.journal) in
    let after = around (remaining c.read.new.reader) (contents c.reads.writer) (acts c.read.new.self) in
    let all : Did before after (Read (take c.in-Ok-read.count c.read.new.chunk) ∷ []) =
    did_read (remaining c.reads.reader) (remaining c.read.new.reader) (contents c.reads.writer) (acts c.reads.journal) (acts c.read.new.self) _
    c.in-Ok-read.ensures.read c.in-Ok-read.ensures.act in
    stood (desk_of c.args.desk.now) (desk_of c.reads.desk) (around (remaining c.args.reader.now) (contents c.args.writer.now) (acts c.args.journal.now)) before after
    c.reads.invariant.serves (subst (λ n. Did before after (Read (take n c.read.new.chunk) ∷ [])) c.if-count-eq0.true all)

pub returns-in-Err-take_read-clause-served : goal.returns-in-Err-take_read-clause-served
returns-in-Err-take_read-clause-served g c =
    let remaining = g.R.Read.remaining in
    let contents = g.W.Write.contents in
    let acts = g.J.Journal.acts in
    not_taken (desk_of c.args.desk.now) (desk_of c.reads.desk) c.in-Err-take_read.fault (around (remaining c.args.reader.now) (contents c.args.writer.now) (acts c.args.journal.now))
    (around (remaining c.reads.reader) (contents c.reads.writer) (acts c.reads.journal))
    (around (remaining c.read.new.reader) (contents c.reads.writer) (acts c.read.new.self)) (take c.in-Ok-read.count c.read.new.chunk) c.reads.invariant.serves
    c.reads.invariant.sound
    (
    did_read (remaining c.reads.reader) (remaining c.read.new.reader) (contents c.reads.writer) (acts c.reads.journal) (acts c.read.new.self) _
    c.in-Ok-read.ensures.read c.in-Ok-read.ensures.act
    )
    c.in-Err-take_read.ensures.fault

pub returns-in-Err-publish-clause-served : goal.returns-in-Err-publish-clause-served
returns-in-Err-publish-clause-served g c =
    let remaining = g.R.Read.remaining in
    let contents = g.W.Write.contents in
    let acts = g.J.Journal.acts in
    not_published (desk_of c.args.desk.now) (desk_of c.reads.desk) (desk_of c.take_read.new.desk) c.in-Err-publish.fault
    (around (remaining c.args.reader.now) (contents c.args.writer.now) (acts c.args.journal.now))
    (around (remaining c.reads.reader) (contents c.reads.writer) (acts c.reads.journal))
    (around (remaining c.read.new.reader) (contents c.reads.writer) (acts c.read.new.self))
    (around (remaining c.read.new.reader) (contents c.publish-in-reads.new.writer) (acts c.publish-in-reads.new.journal))
    (take c.in-Ok-read.count c.read.new.chunk) c.reads.invariant.serves
    (
    did_read (remaining c.reads.reader) (remaining c.read.new.reader) (contents c.reads.writer) (acts c.reads.journal) (acts c.read.new.self) _
    c.in-Ok-read.ensures.read c.in-Ok-read.ensures.act
    )
    c.in-Ok-take_read.ensures.taken c.in-Ok-take_read.ensures.sound (c.in-Err-publish.ensures.fault (remaining c.read.new.reader))

pub reads-preserved : goal.reads-preserved
reads-preserved g c =
    let remaining = g.R.Read.remaining in
    let contents = g.W.Write.contents in
    let acts = g.J.Journal.acts in
    record {
      serves = went_on (desk_of c.args.desk.now) (desk_of c.reads.desk) (desk_of c.take_read.new.desk) (desk_of c.publish-in-reads.new.desk)
          (around (remaining c.args.reader.now) (contents c.args.writer.now) (acts c.args.journal.now))
          (around (remaining c.reads.reader) (contents c.reads.writer) (acts c.reads.journal))
          (around (remaining c.read.new.reader) (contents c.reads.writer) (acts c.read.new.self))
          (around (remaining c.read.new.reader) (contents c.publish-in-reads.new.writer) (acts c.publish-in-reads.new.journal))
          (take c.in-Ok-read.count c.read.new.chunk) c.reads.invariant.serves
          (
          did_read (remaining c.reads.reader) (remaining c.read.new.reader) (contents c.reads.writer) (acts c.reads.journal) (acts c.read.new.self) _
          c.in-Ok-read.ensures.read c.in-Ok-read.ensures.act
          )
          c.in-Ok-take_read.ensures.taken (c.in-Ok-publish.ensures.done (remaining c.read.new.reader)) c.in-Ok-publish.ensures.cleared;
      sound = λ h. still_sound (desk_of c.take_read.new.desk) (desk_of c.publish-in-reads.new.desk) c.in-Ok-publish.ensures.cleared c.in-Ok-take_read.ensures.sound;
      room = omega (arith, c.reads.invariant.room);
      warns = subst (Warns (g.E.Write.contents c.args.errors.now) (g.E.Write.contents c.warn-warned-in-reads.new.errors))
          (still_noted (desk_of c.take_read.new.desk) (desk_of c.publish-in-reads.new.desk) c.in-Ok-publish.ensures.cleared)
          (
          warned_on (g.E.Write.contents c.args.errors.now) (g.E.Write.contents c.reads.errors) (g.E.Write.contents c.warn-warned-in-reads.new.errors)
          (desk_of c.reads.desk) (desk_of c.take_read.new.desk) (take c.in-Ok-read.count c.read.new.chunk) c.reads.warned c.in-Ok-take_read.ensures.taken
          c.reads.invariant.warned c.reads.invariant.warns c.warn-warned-in-reads.ensures.warns
          );
      warned = warned_done (desk_of c.reads.desk) (desk_of c.take_read.new.desk) (take c.in-Ok-read.count c.read.new.chunk) c.reads.warned
          c.warn-warned-in-reads.result c.in-Ok-take_read.ensures.taken c.reads.invariant.warned c.warn-warned-in-reads.ensures.done
          ∙ ap is_some (still_noted (desk_of c.take_read.new.desk) (desk_of c.publish-in-reads.new.desk) c.in-Ok-publish.ensures.cleared);
    }

pub returns-then-count-eq0-clause-sound : goal.returns-then-count-eq0-clause-sound
returns-then-count-eq0-clause-sound g c = c.reads.invariant.sound

-- ---- the journal is due to be made shorter

pub returns-then-may_shorten-clause-served : goal.returns-then-may_shorten-clause-served
returns-then-may_shorten-clause-served g c =
    let remaining = g.R.Read.remaining in
    let contents = g.W.Write.contents in
    let acts = g.J.Journal.acts in
    paused
    (desk_of c.args.desk.now) (desk_of c.reads.desk) (desk_of c.take_read.new.desk) (desk_of c.publish-in-reads.new.desk)
    (around (remaining c.args.reader.now) (contents c.args.writer.now) (acts c.args.journal.now))
    (around (remaining c.reads.reader) (contents c.reads.writer) (acts c.reads.journal))
    (around (remaining c.read.new.reader) (contents c.reads.writer) (acts c.read.new.self))
    (around (remaining c.read.new.reader) (contents c.publish-in-reads.new.writer) (acts c.publish-in-reads.new.journal))
    (take c.in-Ok-read.count c.read.new.chunk) c.reads.invariant.serves
    (
    did_read (remaining c.reads.reader) (remaining c.read.new.reader) (contents c.reads.writer) (acts c.reads.journal) (acts c.read.new.self) _
    c.in-Ok-read.ensures.read c.in-Ok-read.ensures.act
    )
    c.in-Ok-take_read.ensures.taken (c.in-Ok-publish.ensures.done (remaining c.read.new.reader)) c.in-Ok-publish.ensures.cleared c.in-Ok-take_read.ensures.sound

pub returns-then-may_shorten-clause-stands : goal.returns-then-may_shorten-clause-stands
returns-then-may_shorten-clause-stands g c =
    let remaining = g.R.Read.remaining in
    let contents = g.W.Write.contents in
    let acts = g.J.Journal.acts in
    stood_on
    (desk_of c.args.desk.now) (desk_of c.reads.desk) (desk_of c.take_read.new.desk) (desk_of c.publish-in-reads.new.desk)
    (around (remaining c.args.reader.now) (contents c.args.writer.now) (acts c.args.journal.now))
    (around (remaining c.reads.reader) (contents c.reads.writer) (acts c.reads.journal))
    (around (remaining c.read.new.reader) (contents c.reads.writer) (acts c.read.new.self))
    (around (remaining c.read.new.reader) (contents c.publish-in-reads.new.writer) (acts c.publish-in-reads.new.journal))
    (take c.in-Ok-read.count c.read.new.chunk) c.reads.invariant.serves
    (
    did_read (remaining c.reads.reader) (remaining c.read.new.reader) (contents c.reads.writer) (acts c.reads.journal) (acts c.read.new.self) _
    c.in-Ok-read.ensures.read c.in-Ok-read.ensures.act
    )
    c.in-Ok-take_read.ensures.taken (c.in-Ok-publish.ensures.done (remaining c.read.new.reader)) c.in-Ok-publish.ensures.cleared

pub returns-then-may_shorten-clause-sound : goal.returns-then-may_shorten-clause-sound
returns-then-may_shorten-clause-sound g c none =
    still_sound (desk_of c.take_read.new.desk) (desk_of c.publish-in-reads.new.desk) c.in-Ok-publish.ensures.cleared c.in-Ok-take_read.ensures.sound

-- ---- what it warned of

pub returns-in-Err-clause-warned : goal.returns-in-Err-clause-warned
returns-in-Err-clause-warned g c = (disagreement_in (desk_of c.args.desk.now), c.warn-warned.ensures.warns, tt)

pub returns-in_default-clause-warned : goal.returns-in_default-clause-warned
returns-in_default-clause-warned g c = (disagreement_in (desk_of c.reads.desk), c.reads.invariant.warns, tt)

pub returns-then-count-eq0-clause-warned : goal.returns-then-count-eq0-clause-warned
returns-then-count-eq0-clause-warned g c = (disagreement_in (desk_of c.reads.desk), c.reads.invariant.warns, refl)

pub returns-in-Err-take_read-clause-warned : goal.returns-in-Err-take_read-clause-warned
returns-in-Err-take_read-clause-warned g c = (disagreement_in (desk_of c.reads.desk), c.reads.invariant.warns, tt)

pub returns-in-Err-publish-clause-warned : goal.returns-in-Err-publish-clause-warned
returns-in-Err-publish-clause-warned g c = (
  disagreement_in (desk_of c.take_read.new.desk),
  warned_on (g.E.Write.contents c.args.errors.now) (g.E.Write.contents c.reads.errors) (g.E.Write.contents c.warn-warned-in-reads.new.errors)
      (desk_of c.reads.desk) (desk_of c.take_read.new.desk) (take c.in-Ok-read.count c.read.new.chunk) c.reads.warned c.in-Ok-take_read.ensures.taken
      c.reads.invariant.warned c.reads.invariant.warns c.warn-warned-in-reads.ensures.warns,
  tt,
)

pub returns-clause-warned : goal.returns-clause-warned
returns-clause-warned g c = (disagreement_in (desk_of c.reads.desk), c.reads.invariant.warns, tt)

pub returns-then-may_shorten-clause-warned : goal.returns-then-may_shorten-clause-warned
returns-then-may_shorten-clause-warned g c = (
  disagreement_in (desk_of c.take_read.new.desk),
  warned_on (g.E.Write.contents c.args.errors.now) (g.E.Write.contents c.reads.errors) (g.E.Write.contents c.warn-warned-in-reads.new.errors)
      (desk_of c.reads.desk) (desk_of c.take_read.new.desk) (take c.in-Ok-read.count c.read.new.chunk) c.reads.warned c.in-Ok-take_read.ensures.taken
      c.reads.invariant.warned c.reads.invariant.warns c.warn-warned-in-reads.ensures.warns,
  still_noted (desk_of c.take_read.new.desk) (desk_of c.publish-in-reads.new.desk) c.in-Ok-publish.ensures.cleared,
)
