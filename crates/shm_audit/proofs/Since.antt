-- What was asked of a site's process, and the steps that it made since, from one event to the next.
use Rattle.std.proofs.Common.{◌≡◌, List, [], ◌∷◌, ◌++◌, Some, None, map, refl, ap, sym, subst, ◌∙◌, append_assoc}
use Rattle.std.specs.Prelude.{Option}
use Rattle.shm_process.specs.Node.{Node, Said}
use Rattle.shm_process.specs.Recorded.{Event, Line, after_event, after_events, said_at}
use Rattle.shm_wire.specs.Line as stream
use Rattle.shm_audit.proofs.Among.{among-more, among-push}
use Rattle.shm_audit.specs.Loads.{Among, Made, MadeSince, made_at, made_by}
use Rattle.shm_audit.specs.Told.{all_said, said_first}

pub after-both : (xs ys : List Event) (node : Node) → after_events node (xs ++ ys) ≡ after_events (after_events node xs) ys
after-both [] ys node = refl
after-both (x ∷ xs) ys node = after-both xs ys (after_event node x)

-- ---- steps

abbrev made_first : Option Said → List Made → List Made
made_first None steps = steps
made_first (Some said) steps = made_by said ∷ steps

made-more : (said : Option Said) (all : List Said) → map made_by (said_first said all) ≡ made_first said (map made_by all)
made-more None all = refl
made-more (Some said) all = refl

first-both : (said : Option Said) (xs ys : List Made) → made_first said (xs ++ ys) ≡ made_first said xs ++ ys
first-both None xs ys = refl
first-both (Some said) xs ys = refl

made-both : (xs ys : List Event) (node : Node) → made_at node (xs ++ ys) ≡ made_at node xs ++ made_at (after_events node xs) ys
made-both [] ys node = refl
made-both (x ∷ xs) ys node =
    made-more (said_at node x) (all_said (after_event node x) (xs ++ ys))
    ∙ ap (made_first (said_at node x)) (made-both xs ys (after_event node x))
    ∙ first-both (said_at node x) (made_at (after_event node x) xs) (made_at (after_events (after_event node x) xs) ys)
    ∙ ap (λ l. l ++ made_at (after_events (after_event node x) xs) ys) (sym (made-more (said_at node x) (all_said (after_event node x) xs)))

-- ---- since an ask

are-more : (events before since : List Event) (ask event : Event) → events ≡ before ++ ask ∷ since → events ++ event ∷ [] ≡ before ++ ask ∷ (since ++ event ∷ [])
are-more events before since ask event e = ap (λ l. l ++ event ∷ []) e ∙ append_assoc before (ask ∷ since) (event ∷ [])

-- whatever happens next
pub since-more : (first : Node) (events : List Event) (event : Event) (ask : stream.Line) (steps : List Made) → MadeSince first events ask steps
    → MadeSince first (events ++ event ∷ []) ask steps
since-more first events event ask steps m =
    let asked = after_events first (m.before ++ Line m.line ∷ []) in
    record {
      before = m.before;
      line = m.line;
      since = m.since ++ event ∷ [];
      are = are-more events m.before m.since (Line m.line) event m.are;
      room = m.room;
      asked = m.asked;
      made = subst (Among steps) (sym (made-both m.since (event ∷ []) asked))
          (among-more steps (made_at asked m.since) (made_at (after_events asked m.since) (event ∷ [])) m.made);
    }

-- the node that stands there
now-is : (first : Node) (events before since : List Event) (ask : Event) → events ≡ before ++ ask ∷ since
    → after_events first events ≡ after_events (after_events first (before ++ ask ∷ [])) since
now-is first events before since ask e =
    ap (after_events first) e ∙ after-both before (ask ∷ since) first
    ∙ sym (ap (λ n. after_events n since) (after-both before (ask ∷ []) first))

-- a step that is made next
pub since-push : (first : Node) (events : List Event) (event : Event) (said : Said) (ask : stream.Line) (steps : List Made) → said_at (after_events first events) event ≡ Some said
    → MadeSince first events ask steps → MadeSince first (events ++ event ∷ []) ask (steps ++ made_by said ∷ [])
since-push first events event said ask steps says m =
    let asked = after_events first (m.before ++ Line m.line ∷ []) in
    let here : said_at (after_events asked m.since) event ≡ Some said =
    subst (λ n. said_at n event ≡ Some said) (now-is first events m.before m.since (Line m.line) m.are) says in
    let whole : made_at asked (m.since ++ event ∷ []) ≡ made_at asked m.since ++ made_by said ∷ [] =
    made-both m.since (event ∷ []) asked ∙ ap (λ o. made_at asked m.since ++ map made_by (said_first o [])) here in
    record {
      before = m.before;
      line = m.line;
      since = m.since ++ event ∷ [];
      are = are-more events m.before m.since (Line m.line) event m.are;
      room = m.room;
      asked = m.asked;
      made = subst (Among (steps ++ made_by said ∷ [])) (sym whole) (among-push steps (made_at asked m.since) (made_by said) m.made);
    }
