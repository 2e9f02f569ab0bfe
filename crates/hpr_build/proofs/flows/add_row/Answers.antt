use Rattle.std.proofs.Common.{◌-◌, ℕ, [], List, Bool, get_or, refl, sym, ap, ◌∙◌, subst, arith, vec_len, Vec, Global}
use Rattle.hpr_build.specs.Flows.{CutsTo}
use Rattle.hpr_build.proofs.Cuts.{kept_before, last_place}
use Rattle.hpr_build.proofs.flows.add_row.Goals as goal
use Rattle.hpr_build.proofs.flows.add_row.Goals.{then-comes+in_ok-reach+in_ok-push, else-comes}

pub returns-clause-kept : goal.returns-clause-kept
returns-clause-kept c = elim c.if-comes.branch [
  | then-comes+in_ok-reach+in_ok-push w ↦ rw w.rows-is (kept_before c.args.rows.now.items w.push.new.self.items w.in_ok-reach.field-0 [] w.in_ok-push.ensures.items)
  | else-comes w ↦ rw w.rows-is (λ i l. (l, refl))
]

pub returns-clause-row : goal.returns-clause-row
returns-clause-row c =
    let P : List Bool → Type 0 = CutsTo c.args.succ.now c.args.name.now c.args.from c.args.cut in
    elim c.if-comes.branch [
      | then-comes+in_ok-reach+in_ok-push w ↦
          let is = ap (λ (v : Vec (List Bool) Global). get_or v.items (c.len.result - 1) []) w.rows-is
          ∙ last_place c.args.rows.now.items w.push.new.self.items w.in_ok-reach.field-0 [] (c.len.result - 1)
          (omega (arith, c.len.ensures, ap vec_len w.rows-is, w.in_ok-push.ensures.len)) w.in_ok-push.ensures.items in
          subst P (sym is) w.in_ok-reach.ensures.exact
      | else-comes w ↦
          let is = ap (λ (v : Vec (List Bool) Global). get_or v.items (vec_len v - 1) []) w.rows-is in
          subst (λ (n : ℕ). P (get_or c.if-comes.rows.items (n - 1) [])) (sym c.len.ensures)
          (subst P (sym is) (c.requires.last (λ t. absurd (cc (t, w.if-comes.false)))))
    ]
