use Rattle.std.proofs.Common.{◌≡◌, ◌↔◌, ◌⊎◌, ℕ, sym, ap, subst, get_or, slice_get, Some, List, Contains, arith}
use Rattle.std.proofs.lemmas.Option.{slice_get-get_or, slice_get_within}
use Rattle.hpr_graph.specs.declared.link.Link.{Link}
use Rattle.hpr_graph.specs.Numbered.{row_items, row_of}
use Rattle.hpr_search.specs.Rows.{numbers_at, numbers_of}
use Rattle.hpr_order.proofs.Marked.{part_within}
use Rattle.hpr_region.specs.Making.{IsReadFrom}
use Rattle.hpr_region.proofs.Readers.{below_more, read_exact, read_within}
use Rattle.hpr_region.proofs.tables.readers_by.Goals as goal

pub loop-item-init : goal.loop-item-init
loop-item-init c = record {
  count = c.in_ok-rows.ensures.count;
  rows = λ a b. ((λ h. absurd (c.in_ok-rows.ensures.blank a b h)), (λ h. absurd (omega (arith, h.0))));
}

pub loop-item-preserved : goal.loop-item-preserved
loop-item-preserved c =
    let n : ℕ = get_or c.args.numbers.now c.loop-item.item 0 in
    let here : slice_get c.args.numbers.now c.loop-item.item ≡ Some n = slice_get-get_or c.args.numbers.now c.loop-item.item 0 c.loop-item-test.true in
    let row : row_of c.args.graph.now n ≡ c.edges_into.result.now = ap row_items c.edges_into.ensures.row in
    let Q : ℕ → ℕ → Type 0 = λ m a. IsReadFrom c.args.places.now (row_of c.args.graph.now m) a in
    record {
      count = omega (arith, c.add_readers.ensures.count, c.loop-item.invariant.count);
      rows = below_more Q c.args.numbers.now c.loop-item.item n (numbers_of c.loop-item.rows.items) (numbers_of c.add_readers.new.rows.items) here c.loop-item.invariant.rows
          (λ a b. subst (λ (r : List Link). Contains (numbers_at (numbers_of c.add_readers.new.rows.items) a) b
          ↔ (Contains (numbers_at (numbers_of c.loop-item.rows.items) a) b ⊎ ((b ≡ c.loop-item.item) × IsReadFrom c.args.places.now r a))) (sym row) (c.in_ok-add_readers.ensures.rows a b));
    }

pub edges_into-requires : goal.edges_into-requires
edges_into-requires c = part_within c.args.graph.now c.args.numbers.now c.requires.numbers c.loop-item.item 0 c.loop-item-test.true

pub add_readers-requires : goal.add_readers-requires
add_readers-requires c = λ n k e.
    omega (arith, slice_get_within c.args.numbers.now k n ((c.requires.places n k).0 e), c.loop-item.invariant.count)

pub returns-clause-within : goal.returns-clause-within
returns-clause-within c =
    read_within c.args.graph.now c.requires.numbered c.args.numbers.now c.requires.numbers c.args.places.now c.requires.places (numbers_of c.loop-item.rows.items) c.loop-item.item c.loop-item.invariant.rows

pub returns-clause-readers : goal.returns-clause-readers
returns-clause-readers c =
    read_exact c.args.graph.now c.requires.numbered c.args.numbers.now c.requires.numbers c.args.places.now c.requires.places (numbers_of c.loop-item.rows.items) c.loop-item.item c.loop-item-test.false c.loop-item.invariant.rows
