use Rattle.std.proofs.Common.{◌+◌, ◌∙◌, ap, sym, arith}
use Rattle.hpr_scan.proofs.Loop.{start_feeds, feeds_more, fault_at}
use Rattle.hpr_scan.proofs.Runs.{within_rest, passed_on, stands_at}
use Rattle.hpr_scan.proofs.Front.{no_front_waits, no_front_first, no_front_more, front_reads, front_refused, front_unended}
use Rattle.hpr_scan.specs.Scanner.{refusal_at, at}
use Rattle.hpr_scan.proofs.reader.read_front.Goals as goal

pub loop-place-init : goal.loop-place-init
loop-place-init g c =
    let m = g.M.TokenMachine in
    record {
      within = omega arith;
      front = start_feeds m.next c.args.machine c.new-scanner.result c.new-scanner.ensures;
      goes_on = rw c.new-scanner.ensures c.requires;
      no_front = no_front_first m.next m.may_end g.met.M.TokenMachine.laws g.met.M.FrontMachine.ends_at_once c.args.machine c.args.bytes.now c.requires;
    }

pub loop-place-preserved-in-Passed : goal.loop-place-preserved-in-Passed
loop-place-preserved-in-Passed g c =
    let m = g.M.TokenMachine in
    let l = c.loop-place in
    let p = c.in-Passed.ensures in
    record {
      within = within_rest l.place c.in-Passed.count c.args.bytes.now l.invariant.within p.within;
      front = passed_on m.next c.args.machine c.args.bytes.now l.place c.in-Passed.count l.scanner c.advance.new.self l.invariant.front p.fed;
      goes_on = ap m.may_end p.machine ∙ l.invariant.goes_on;
      no_front = no_front_waits m.next m.may_end g.met.M.TokenMachine.laws g.met.M.FrontMachine.ends_at_once c.args.machine c.args.bytes.now l.place c.in-Passed.count l.scanner
          l.invariant.front l.invariant.goes_on p.waits l.invariant.no_front;
    }

pub returns-in-Failed-clause-place : goal.returns-in-Failed-clause-place
returns-in-Failed-clause-place g c =
    let m = g.M.TokenMachine in
    let l = c.loop-place in
    let p = c.in-Failed.ensures in
    let place = l.place + c.in-Failed.count in
    let stands = stands_at m.next c.args.machine c.args.bytes.now l.place c.in-Failed.count l.scanner _ l.invariant.within l.invariant.front p in
    let none = no_front_waits m.next m.may_end g.met.M.TokenMachine.laws g.met.M.FrontMachine.ends_at_once c.args.machine c.args.bytes.now l.place c.in-Failed.count l.scanner
    l.invariant.front l.invariant.goes_on p.waits l.invariant.no_front in
    rw c.refused.ensures
    (front_refused m.next m.may_end g.met.M.TokenMachine.laws g.met.M.TokenMachine.live c.args.machine c.args.bytes.now place (at stands.begun l.scanner.machine) (refusal_at place c.in-Failed.fault)
    stands.within stands.front (fault_at _ place c.in-Failed.fault stands.taken) none)

pub returns-then-can_end-clause-within : goal.returns-then-can_end-clause-within
returns-then-can_end-clause-within g c =
    let l = c.loop-place in
    (stands_at g.M.TokenMachine.next c.args.machine c.args.bytes.now l.place c.in-Took.count l.scanner _ l.invariant.within l.invariant.front c.in-Took.ensures).within

pub returns-then-can_end-clause-reads : goal.returns-then-can_end-clause-reads
returns-then-can_end-clause-reads g c =
    let m = g.M.TokenMachine in
    let l = c.loop-place in
    let stands = stands_at m.next c.args.machine c.args.bytes.now l.place c.in-Took.count l.scanner _ l.invariant.within l.invariant.front c.in-Took.ensures in
    front_reads m.next m.may_end g.met.M.TokenMachine.laws g.met.M.FrontMachine.ends_at_once c.args.machine c.args.bytes.now (l.place + c.in-Took.count) (at stands.begun l.scanner.machine) c.advance.new.self
    stands.within stands.front l.invariant.goes_on stands.taken (sym c.can_end.ensures ∙ c.if-can_end.true)

pub returns-then-can_end-clause-shortest : goal.returns-then-can_end-clause-shortest
returns-then-can_end-clause-shortest g c =
    let m = g.M.TokenMachine in
    let l = c.loop-place in
    no_front_waits m.next m.may_end g.met.M.TokenMachine.laws g.met.M.FrontMachine.ends_at_once c.args.machine c.args.bytes.now l.place c.in-Took.count l.scanner
    l.invariant.front l.invariant.goes_on c.in-Took.ensures.waits l.invariant.no_front

pub loop-place-preserved : goal.loop-place-preserved
loop-place-preserved g c =
    let m = g.M.TokenMachine in
    let l = c.loop-place in
    let place = l.place + c.in-Took.count in
    let stands = stands_at m.next c.args.machine c.args.bytes.now l.place c.in-Took.count l.scanner _ l.invariant.within l.invariant.front c.in-Took.ensures in
    let fed = feeds_more m.next c.args.machine c.args.bytes.now place (at stands.begun l.scanner.machine) c.advance.new.self stands.within stands.front stands.taken in
    let goes = sym c.can_end.ensures ∙ c.if-can_end.false in
    let none = no_front_waits m.next m.may_end g.met.M.TokenMachine.laws g.met.M.FrontMachine.ends_at_once c.args.machine c.args.bytes.now l.place c.in-Took.count l.scanner
    l.invariant.front l.invariant.goes_on c.in-Took.ensures.waits l.invariant.no_front in
    record {
      within = omega (arith, stands.within);
      front = fed;
      goes_on = goes;
      no_front = no_front_more m.next m.may_end g.met.M.TokenMachine.laws g.met.M.FrontMachine.ends_at_once c.args.machine c.args.bytes.now place c.advance.new.self fed goes none;
    }

pub returns-clause-place : goal.returns-clause-place
returns-clause-place g c =
    let m = g.M.TokenMachine in
    front_unended m.next m.may_end g.met.M.TokenMachine.laws g.met.M.TokenMachine.live c.args.machine c.args.bytes.now c.loop-place.place c.loop-place.scanner
    c.loop-place-test.false c.loop-place.invariant.front c.loop-place.invariant.no_front
