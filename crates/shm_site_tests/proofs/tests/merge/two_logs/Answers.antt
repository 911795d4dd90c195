use Rattle.shm_site_tests.proofs.Rising.{pushed-twice, two-match, two-rise}
use Rattle.shm_site_tests.proofs.tests.merge.two_logs.Goals as goal

pub returns-clause-rise : goal.returns-clause-rise
returns-clause-rise g c =
    let first = c.in_ok-first.first in
    let second = c.in_ok-second.second in
    let both = pushed-twice c.in_ok-logs.logs.items c.push.new.self.items c.push-2.new.self.items first second
    c.in_ok-logs.ensures.items c.in_ok-push.ensures.items c.in_ok-push-2.ensures.items in
    two-rise c.push-2.new.self.items first second both c.in_ok-first.ensures.rises c.in_ok-second.ensures.rises

pub returns-clause-matching : goal.returns-clause-matching
returns-clause-matching g c =
    let first = c.in_ok-first.first in
    let second = c.in_ok-second.second in
    let both = pushed-twice c.in_ok-logs.logs.items c.push.new.self.items c.push-2.new.self.items first second
    c.in_ok-logs.ensures.items c.in_ok-push.ensures.items c.in_ok-push-2.ensures.items in
    two-match c.push-2.new.self.items first second both c.in_ok-first.ensures.matches c.in_ok-second.ensures.matches
