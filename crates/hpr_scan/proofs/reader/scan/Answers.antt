use Rattle.std.proofs.Common.{◌≡◌, ℕ, ◌+◌, take, Some, subst, arith}
use Rattle.hpr_scan.proofs.Loop.{start_feeds, feeds_more, fault_at, fed_stops}
use Rattle.hpr_scan.proofs.Runs.{within_rest, passed_on, stands_at}
use Rattle.hpr_scan.specs.declared.scanner.Lex.TheVariants.{Gap}
use Rattle.hpr_scan.specs.Scanner.{refusal_at, at, feeds}
use Rattle.hpr_scan.proofs.reader.scan.Goals as goal

pub loop-place-init : goal.loop-place-init
loop-place-init g c = record { within = omega arith; front = start_feeds g.M.TokenMachine.next c.args.machine c.new-scanner.result c.new-scanner.ensures }

pub loop-place-preserved-in-Passed : goal.loop-place-preserved-in-Passed
loop-place-preserved-in-Passed g c =
    let l = c.loop-place in
    record {
      within = within_rest l.place c.in-Passed.count c.args.bytes.now l.invariant.within c.in-Passed.ensures.within;
      front = passed_on g.M.TokenMachine.next c.args.machine c.args.bytes.now l.place c.in-Passed.count l.scanner c.advance.new.self l.invariant.front c.in-Passed.ensures.fed;
    }

pub loop-place-preserved : goal.loop-place-preserved
loop-place-preserved g c =
    let next = g.M.TokenMachine.next in
    let l = c.loop-place in
    let b = c.advance.new.self in
    let stands = stands_at next c.args.machine c.args.bytes.now l.place c.in-Took.count l.scanner _ l.invariant.within l.invariant.front c.in-Took.ensures in
    let place = l.place + c.in-Took.count in
    let same : place + 1 ≡ l.place + (c.in-Took.count + 1) = omega arith in
    record {
      within = omega (arith, stands.within);
      front = subst (λ (k : ℕ). feeds next Gap c.args.machine (take k c.args.bytes.now) ≡ Some b) same
          (feeds_more next c.args.machine c.args.bytes.now place (at stands.begun l.scanner.machine) b stands.within stands.front stands.taken);
    }

pub returns-in-Failed : goal.returns-in-Failed
returns-in-Failed g c =
    let next = g.M.TokenMachine.next in
    let l = c.loop-place in
    let stands = stands_at next c.args.machine c.args.bytes.now l.place c.in-Failed.count l.scanner _ l.invariant.within l.invariant.front c.in-Failed.ensures in
    let place = l.place + c.in-Failed.count in
    rw c.refused.ensures
    (fed_stops next c.args.machine c.args.bytes.now place (at stands.begun l.scanner.machine) (refusal_at place c.in-Failed.fault) stands.within stands.front (fault_at _ place c.in-Failed.fault stands.taken))
