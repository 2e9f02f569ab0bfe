use Rattle.std.proofs.Common.{◌≡◌, ◌∙◌, ℕ, List, [], ◌∷◌, ◌++◌, Contains, ap, arith, subst, sym}
use Rattle.hpr_search.specs.Rows.{numbers_at, numbers_of}
use Rattle.hpr_search.proofs.RowLists.{push_row}
use Rattle.hpr_search.proofs.RowLaws.{blank_more}
use Rattle.hpr_region.proofs.tables.blank_rows.Goals as goal

pub loop-preserved : goal.loop-preserved
loop-preserved c =
    let one : numbers_of c.push.new.self.items ≡ numbers_of c.loop.rows.items ++ [] ∷ [] =
    ap numbers_of c.in_ok-push.ensures.items ∙ push_row c.loop.rows.items c.new.result ∙ ap (λ (row : List ℕ). numbers_of c.loop.rows.items ++ row ∷ []) c.new.ensures.items in
    record {
      count = omega (arith, c.in_ok-push.ensures.len, c.loop.invariant.count);
      blank = subst (λ (rows : List (List ℕ)). (at n : ℕ) → ¬ Contains (numbers_at rows at) n) (sym one) (blank_more (numbers_of c.loop.rows.items) c.loop.invariant.blank);
    }
