use Rattle.std.proofs.Common.{ℕ, List, Contains, Vec, sym, ap, ◌∙◌, subst, arith}
use Rattle.std.specs.Global.{Global}
use Rattle.std.specs.Cmp.Lexicographic.{slice_cmp}
use Rattle.std.specs.List.Sorted.{IsStrictlySortedBy}
use Rattle.std.specs.Ordering.{nat_cmp}
use Rattle.hpr_region.specs.Making.{AreDefinedIn}
use Rattle.hpr_region.proofs.Made.{flows_are, row_same}
use Rattle.hpr_region.proofs.tables.flows_of.Goals as goal

pub flows_by-requires-clause-names : goal.flows_by-requires-clause-names
flows_by-requires-clause-names c = subst (IsStrictlySortedBy (slice_cmp nat_cmp)) (sym c.deref.ensures.value) c.in_ok-names.ensures.ascending

pub flows_by-requires-clause-all : goal.flows_by-requires-clause-all
flows_by-requires-clause-all c = subst (λ (ns : List (List ℕ)). AreDefinedIn ns c.args.items.now) (sym c.deref.ensures.value) c.in_ok-names.ensures.all

pub flows_by-requires-clause-count : goal.flows_by-requires-clause-count
flows_by-requires-clause-count c = c.in_ok-readers.ensures.count ∙ sym c.requires.items.at.count

pub flows_by-requires-clause-within : goal.flows_by-requires-clause-within
flows_by-requires-clause-within c = λ k u h.
    omega (arith, c.in_ok-readers.ensures.within k u (subst (λ (row : List ℕ). Contains row u) (row_same c.in_ok-readers.readers.items k) h), c.requires.items.at.count)

pub returns-clause-flows : goal.returns-clause-flows
returns-clause-flows c =
    let sorted = subst (IsStrictlySortedBy (slice_cmp nat_cmp)) (sym c.deref.ensures.value) c.in_ok-names.ensures.ascending in (
      c.deref.result.now,
      flows_are c.args.graph.now c.args.numbers.now c.args.items.now c.requires.items c.deref.result.now sorted c.in_ok-flows.flows c.in_ok-flows.ensures.slots c.in_ok-flows.ensures.variables
          c.in_ok-flows.ensures.uses c.in_ok-readers.readers.items (ap (λ (v : Vec (Vec ℕ Global) Global). v.items) c.in_ok-flows.ensures.readers) c.in_ok-readers.ensures.readers c.in_ok-flows.ensures.count,
    )

pub returns-clause-count : goal.returns-clause-count
returns-clause-count c = c.in_ok-flows.ensures.count ∙ c.requires.items.at.count
