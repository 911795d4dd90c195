-- No step makes a number above its clock: neither one that the site holds, nor one that an envelope names.
use Rattle.std.proofs.Common.{ℕ, ◌+◌, ◌<◌, ◌≤◌, ◌==◌, List, [], ◌∷◌, map, not, Option, Some, None, is_some, is_none}
use Rattle.std.specs.List.{All, range_with_len}
use Rattle.std.specs.Prelude.{⊤, IfSome, ◌&&◌}
use Rattle.std.proofs.lemmas.List.Elements.{All-nil, All-append, All-cons, All-filter, All-head, All-tail}
use Rattle.shm_place.specs.declared.page_id.PageId.{PageId}
use Rattle.shm_place.specs.Page.{manager_of}
use Rattle.shm_model.specs.declared.answer.Answer.{Answer}
use Rattle.shm_model.specs.declared.answer.Answer.TheVariants.{Refused}
use Rattle.shm_model.specs.declared.call.Op.{Op}
use Rattle.shm_model.specs.declared.call.Op.TheVariants.{Get, Attach, Detach, Remove, Set, Stat}
use Rattle.shm_model.specs.declared.call.Reply.{Reply}
use Rattle.shm_model.specs.declared.call.Reply.TheVariants as reply
use Rattle.shm_model.specs.declared.call.Request.{Request}
use Rattle.shm_model.specs.declared.call.Request.TheVariants.{Op as OpRequest, DetachAt}
use Rattle.shm_model.specs.Basics.{at, greatest}
use Rattle.shm_model.specs.Book.{untouched_book}
use Rattle.shm_model.specs.Calls.{Attachment, Freshness, Fresh, Again, Old, Outstanding, fits, freshness}
use Rattle.shm_model.specs.Entry.{Nil, OwnWrite, Note, Ask, Clear, Cleared, Hand, Page, Confirm, seen}
use Rattle.shm_model.specs.Kernel.{call, destroyed_by}
use Rattle.shm_model.specs.Message.{Message, Of, Call, Replies, Purge, Purged, Envelope, Input, Load, Store, Begin, Deliver, Tick, Restart}
use Rattle.shm_model.specs.Refusal.{busy, foreign_message}
use Rattle.shm_model.specs.SegmentCalls.{attached, attached_at, begin, begin_detach, begin_op, begin_request, call_begun, numbered, on_call_as, on_purge, on_purged, on_reply_to, purge_envelope, purged_site, purges, reply_counts, with_missing}
use Rattle.shm_model.specs.Site.{Site, Pending, blank, is_attached, least_free, still}
use Rattle.shm_model.specs.Step.{ask_again, call_again, deliver, foreign, on_message, orders_again, purges_again, step, tick, restart}
use Rattle.shm_model.specs.Transfer.{on_note}
use Rattle.shm_model.specs.World.{Preset, opened_site}
use Rattle.shm_process.specs.Numbers.{BookWithin, NumbersWithin, number_named, number_noted}
use Rattle.shm_process.proofs.NumberedRows.{Fits, Good, all-flat_map, all-map, either, fit, good-ask, good-cleared, good-confirm, good-load, good-still, good-store, good-to_book, good-to_entry, least, next-within, now, orders-fit, row-clear, row-hand, row-page}

-- ---- messages

-- an envelope that is handed over names no number above the clock
abbrev pub InputWithin : ℕ → Input → Type 0
InputWithin c (Deliver e) = number_named e.message ≤ c
InputWithin c _ = ⊤

untouched-within : (c me : ℕ) → BookWithin c (untouched_book me)
untouched-within c me = record { number = least c; served = λ s. least c; waiting = All-nil (λ w. w.request ≤ c) }

purge-fits : (c me id to : ℕ) → Fits c (purge_envelope me id to)
purge-fits c me id to = fit 0 c (least c)

purges-fit : (c sites me : ℕ) (gone : Option ℕ) → All (Fits c) (purges sites me gone)
purges-fit c sites me None = All-nil (Fits c)
purges-fit c sites me (Some id) = all-map (Fits c) (purge_envelope me id) (range_with_len 0 sites) (purge-fits c me id)

within-missing : (c sites : ℕ) (gone : Option ℕ) (site : Site) → NumbersWithin c site → NumbersWithin c (with_missing sites gone site)
within-missing c sites None site h = h
within-missing c sites (Some id) site h = record {
  requests = h.requests;
  pending = h.pending;
  entries = h.entries;
  books = h.books;
  calls = h.calls;
  outstanding = h.outstanding;
  kept = h.kept;
}

within-answered : (c : ℕ) (site : Site) (slots : ℕ → Option Attachment) → NumbersWithin c site
    → NumbersWithin c (record site { outstanding = None; attachments = slots })
within-answered c site slots h = record {
  requests = h.requests;
  pending = h.pending;
  entries = h.entries;
  books = h.books;
  calls = h.calls;
  outstanding = tt;
  kept = h.kept;
}

module _ (sites me k c : ℕ) (site : Site) (l : k < c) (h : NumbersWithin k site) where
  good-note : (from : ℕ) (page : PageId) (note : Note) → number_noted note ≤ c → Good c (on_note sites me from page note site)
  good-note from page (Ask request kind) is =
      good-to_book c me page _ site (now sites me k c site l h) (good-ask k c l from request kind (site.books page) is (h.books page))
  good-note from page (Clear n) is =
      good-to_entry sites me c page _ site (now sites me k c site l h) (row-clear c n (site.entries page) is ((now sites me k c site l h).entries page))
  good-note from page (Cleared n) is =
      good-to_book c me page _ site (now sites me k c site l h) (good-cleared k c l (site.books page).running from n (site.books page) (h.books page))
  good-note from page (Hand n kind to) is =
      good-to_entry sites me c page _ site (now sites me k c site l h) (row-hand c n (site.entries page) is ((now sites me k c site l h).entries page) me to kind)
  good-note from page (Page n kind b) is =
      good-to_entry sites me c page _ site (now sites me k c site l h) (row-page c n (site.entries page) is ((now sites me k c site l h).entries page) kind b)
  good-note from page (Confirm n) is =
      good-to_book c me page _ site (now sites me k c site l h) (good-confirm k c l (site.books page).running from n (site.books page) (h.books page))

  -- a call begins
  good-begun : (op : Op) (slots : ℕ → Option Attachment) → Good c (call_begun sites me op (record site { attachments = slots }))
  good-begun op slots =
      let next : site.calls + 1 ≤ c = next-within site.calls k c h.calls l in
      let held = now sites me k c site l h in
      record {
        site = record {
          requests = held.requests;
          pending = held.pending;
          entries = held.entries;
          books = held.books;
          calls = next;
          outstanding = next;
          kept = held.kept;
        };
        sent = All-cons (Fits c) _ [] (fit (site.calls + 1) c next) (All-nil (Fits c));
      }

  good-numbered : (op : Op) (slots : ℕ → Option Attachment) → Good c (numbered site (call_begun sites me op (record site { attachments = slots })))
  good-numbered op slots = either (Good c) (site.calls == greatest) _ _ (good-still sites me k c site l h _) (good-begun op slots)

  good-begin_op : (op : Op) → Good c (begin_op sites me op site)
  good-begin_op (Detach id) = good-still sites me k c site l h _
  good-begin_op (Attach cred id ro) =
      either (Good c) (is_none (least_free site.attachments)) _ _ (good-still sites me k c site l h _) (good-numbered (Attach cred id ro) site.attachments)
  good-begin_op (Get cred key size mode flags) = good-numbered (Get cred key size mode flags) site.attachments
  good-begin_op (Remove cred id) = good-numbered (Remove cred id) site.attachments
  good-begin_op (Set cred id uid gid mode) = good-numbered (Set cred id uid gid mode) site.attachments
  good-begin_op (Stat cred id) = good-numbered (Stat cred id) site.attachments

  good-begin_detach : (a : ℕ) (attachment : Option Attachment) → Good c (begin_detach sites me a attachment site)
  good-begin_detach a None = good-still sites me k c site l h _
  good-begin_detach a (Some attachment) = good-numbered (Detach attachment.id) (at site.attachments a None)

  good-request : (request : Request) → Good c (begin_request sites me request site)
  good-request (OpRequest op) = good-begin_op op
  good-request (DetachAt a) = good-begin_detach a (site.attachments a)

  good-begin : (request : Request) → Good c (begin sites me request site)
  good-begin request = either (Good c) (is_some site.outstanding) _ _ (good-still sites me k c site l h (Refused busy)) (good-request request)

  -- a call at its home, and a reply
  good-call : (fresh : Freshness) (from number : ℕ) (op : Op) → number ≤ c → Good c (on_call_as fresh sites me from number op site)
  good-call Fresh from number op is =
      let held = now sites me k c site l h in
      let done = call sites me op site.table in
      record {
        site = within-missing c sites (destroyed_by op site.table done.segments) _ (record {
          requests = held.requests;
          pending = held.pending;
          entries = held.entries;
          books = held.books;
          calls = held.calls;
          outstanding = held.outstanding;
          kept = λ s. either (λ o. IfSome o (λ x. x.number ≤ c)) (from == s) (Some (record { number = number; reply = done.reply })) (site.kept s) is (held.kept s);
        });
        sent = All-cons (Fits c) _ _ (fit number c is) (purges-fit c sites me (destroyed_by op site.table done.segments));
      }
  good-call (Again reply) from number op is = record {
    site = now sites me k c site l h;
    sent = All-cons (Fits c) _ [] (fit number c is) (All-nil (Fits c));
  }
  good-call Old from number op is = good-still sites me k c site l h _

  good-answered : (answer : Answer) (slots : ℕ → Option Attachment) → Good c (still answer (record site { outstanding = None; attachments = slots }))
  good-answered answer slots = record { site = within-answered c site slots (now sites me k c site l h); sent = All-nil (Fits c) }

  good-attached_at : (slot : Option ℕ) (number : ℕ) (reply : Reply) (attachment : Attachment) → Good c (attached_at slot number reply attachment site)
  good-attached_at None number reply attachment = good-still sites me k c site l h _
  good-attached_at (Some a) number reply attachment = good-answered _ (at site.attachments a (Some attachment))

  good-attached : (number id : ℕ) (reply : Reply) (attachment : Attachment) → Good c (attached number id reply attachment site)
  good-attached number id reply attachment =
      either (Good c) (site.purged id) _ _ (good-still sites me k c site l h _) (good-attached_at (least_free site.attachments) number reply attachment)

  good-counts : (number : ℕ) (op : Op) (reply : Reply) → Good c (reply_counts number op reply site)
  good-counts number (Attach cred id ro) (reply.Attached a) = good-attached number id (reply.Attached a) _
  good-counts number (Attach cred id ro) (reply.Id i) = good-answered _ site.attachments
  good-counts number (Attach cred id ro) reply.Ok = good-answered _ site.attachments
  good-counts number (Attach cred id ro) (reply.Stat s) = good-answered _ site.attachments
  good-counts number (Attach cred id ro) (reply.Refused e) = good-answered _ site.attachments
  good-counts number (Get cred key size mode flags) reply = good-answered _ site.attachments
  good-counts number (Detach id) reply = good-answered _ site.attachments
  good-counts number (Remove cred id) reply = good-answered _ site.attachments
  good-counts number (Set cred id uid gid mode) reply = good-answered _ site.attachments
  good-counts number (Stat cred id) reply = good-answered _ site.attachments

  good-reply : (outstanding : Option Outstanding) (number : ℕ) (reply : Reply) → Good c (on_reply_to outstanding number reply site)
  good-reply None number reply = good-still sites me k c site l h _
  good-reply (Some o) number reply =
      either (Good c) ((number == o.number) && fits o.op reply) _ _ (good-counts number o.op reply) (good-still sites me k c site l h _)

  -- a purge
  within-purged : (id : ℕ) → NumbersWithin c (purged_site me id site)
  within-purged id =
      let held = now sites me k c site l h in
      record {
        requests = held.requests;
        pending = All-filter (λ p. not (id == p.page.seg)) (λ p. p.request ≤ c) site.pending held.pending;
        entries = λ q. either (λ x. seen x ≤ c) (id == q.seg) (Nil 0) (site.entries q) (least c) (held.entries q);
        books = λ q. either (BookWithin c) (id == q.seg) (untouched_book me) (site.books q) (untouched-within c me) (held.books q);
        calls = held.calls;
        outstanding = held.outstanding;
        kept = held.kept;
      }

  good-purge : (id : ℕ) → Good c (on_purge sites me id site)
  good-purge id =
      either (Good c) (is_attached site id) _ _ (good-still sites me k c site l h _)
      (record { site = within-purged id; sent = All-cons (Fits c) _ [] (fit 0 c (least c)) (All-nil (Fits c)) })

  good-purged : (from id : ℕ) → Good c (on_purged from id site)
  good-purged from id =
      let held = now sites me k c site l h in
      either (Good c) (site.missing id from) _ _
      (record {
        site = record {
          requests = held.requests;
          pending = held.pending;
          entries = held.entries;
          books = held.books;
          calls = held.calls;
          outstanding = held.outstanding;
          kept = held.kept;
        };
        sent = All-nil (Fits c);
      })
      (good-still sites me k c site l h _)

  good-message : (from : ℕ) (message : Message) → number_named message ≤ c → Good c (on_message sites me from message site)
  good-message from (Of page note) is = either (Good c) (site.purged page.seg) _ _ (good-still sites me k c site l h _) (good-note from page note is)
  good-message from (Call number op) is = good-call (freshness (site.kept from) number) from number op is
  good-message from (Replies number reply) is = good-reply site.outstanding number reply
  good-message from (Purge id) is = good-purge id
  good-message from (Purged id) is = good-purged from id

  good-deliver : (e : Envelope) → number_named e.message ≤ c → Good c (deliver sites me e site)
  good-deliver e is =
      either (Good c) (foreign sites me e) _ _ (good-still sites me k c site l h (Refused foreign_message)) (good-message e.from e.message is)

  -- what is sent again
  asks-fit : (pending : List Pending) → All (λ p. p.request ≤ c) pending → All (Fits c) (map (ask_again sites me) pending)
  asks-fit [] all = All-nil (Fits c)
  asks-fit (p ∷ ps) all =
      All-cons (Fits c) _ (map (ask_again sites me) ps) (fit p.request c (All-head (λ p. p.request ≤ c) p ps all)) (asks-fit ps (All-tail (λ p. p.request ≤ c) p ps all))

  call-fits : (outstanding : Option Outstanding) → IfSome outstanding (λ o. o.number ≤ c) → All (Fits c) (call_again sites me outstanding)
  call-fits None is = All-nil (Fits c)
  call-fits (Some o) is = All-cons (Fits c) _ [] (fit o.number c is) (All-nil (Fits c))

  good-tick : Good c (tick sites me site)
  good-tick =
      let held = now sites me k c site l h in
      record {
        site = held;
        sent =
            All-append (Fits c) _ _ (asks-fit site.pending held.pending)
            (All-append (Fits c) _ _ (all-flat_map (Fits c) (orders_again me site) site.booked (λ page. orders-fit c me page (site.books page) _ (held.books page).number))
            (All-append (Fits c) _ _ (call-fits site.outstanding held.outstanding)
            (all-flat_map (Fits c) (purges_again sites me site) site.table (λ g. all-map (Fits c) (purge_envelope me g.id) _ (purge-fits c me g.id)))));
      }

  good-restart : Good c (restart site)
  good-restart =
      let held = now sites me k c site l h in
      record {
        site = record {
          requests = held.requests;
          pending = All-nil (λ p. p.request ≤ c);
          entries = held.entries;
          books = λ q. record { number = (held.books q).number; served = (held.books q).served; waiting = All-nil (λ w. w.request ≤ c) };
          calls = held.calls;
          outstanding = held.outstanding;
          kept = held.kept;
        };
        sent = All-nil (Fits c);
      }

  -- an envelope's number is none above the clock
  pub good-step : (input : Input) → (with-number : InputWithin c input) → Good c (step sites me site input)
  good-step (Load a offset) is = good-load sites me k c site l h a offset
  good-step (Store a offset byte) is = good-store sites me k c site l h a offset byte
  good-step (Begin request) is = good-begin request
  good-step (Deliver e) is = good-deliver e is
  good-step Tick is = good-tick
  good-step Restart is = good-restart

-- ---- the opening

pub opened-within : (c sites pages me : ℕ) → NumbersWithin c (opened_site (Preset sites pages) me)
opened-within c sites pages me = record {
  requests = least c;
  pending = All-nil (λ p. p.request ≤ c);
  entries = λ q. either (λ x. seen x ≤ c) (manager_of sites q == me) (OwnWrite 0 blank) (Nil 0) (least c) (least c);
  books = λ q. untouched-within c me;
  calls = least c;
  outstanding = tt;
  kept = λ s. tt;
}
