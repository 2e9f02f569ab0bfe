use Rattle.std.proofs.Common.{◌≡◌, get_or, sym, ap, ◌∙◌, arith}
use Rattle.std.proofs.lemmas.List.{get_or_default}
use Rattle.hpr_syntax.specs.Issued.{place_of}
use Rattle.hpr_syntax.proofs.IssuedLemmas.{Stands, issued_none}
use Rattle.hpr_syntax.proofs.issued.Issued.get.Goals as goal
use Rattle.hpr_syntax.proofs.issued.Issued.get.Goals.{else-at-len-via-then-at-len+else-index-author, else-at-len-via-else-at-len}

pub returns-else-at-len : goal.returns-else-at-len
returns-else-at-len c =
    let rows = c.self.inside.rows.items in
    let a = c.args.author in
    let at : c.place-at.result ≡ place_of a rows = c.place-at.ensures ∙ ap (place_of a) c.deref.ensures.value in
    let miss : Stands a rows (place_of a rows) → ⊥ =
    elim c.else-at-len.branch [
      | else-at-len-via-then-at-len+else-index-author w ↦ λ s.
          let e : w.index.result.now ≡ get_or rows c.place-at.result w.index.result.now = w.index.ensures in
          let d = get_or_default rows (place_of a rows) (0, 0) w.index.result.now s.0 in
          grind (arith, e, d, at, s.1, w.if-index-author.false)
      | else-at-len-via-else-at-len w ↦ λ s. omega (arith, s.0, at, w.if-at-len.false, c.len.ensures)
    ]
    in
    rw (← c.self.view_is) (sym (issued_none 0 a rows c.self.invariant miss))
