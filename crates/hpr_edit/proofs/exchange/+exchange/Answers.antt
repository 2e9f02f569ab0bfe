use Rattle.std.proofs.Common.{rules, ◌≡◌, ◌<◌, ◌≤◌, ◌+◌, ap, sym, ◌∙◌, subst, arith, length, get_or, take, add-one, true, false, Some, None}
use Rattle.std.specs.Option.{option_or}
use Rattle.std.proofs.lemmas.List.{get_or_default, take_all}
use Rattle.hpr_syntax.specs.declared.tree.Stmt.TheVariants.{If}
use Rattle.hpr_syntax.specs.Body.{done}
use Rattle.hpr_syntax.specs.BodyOf.{before, body_of}
use Rattle.hpr_syntax.specs.Parts.{tag_of, same_tag, find_stmt}
use Rattle.hpr_edit.specs.Changes.{at_part, from}
use Rattle.hpr_edit.specs.InPlace.{times, one_if, on_first, in_part, placing, found_within}
use Rattle.hpr_edit.proofs.Around.{absent, absent_found, times_head}
use Rattle.hpr_edit.proofs.Lists.{at_it, in_yes, Visit, visit, went_in, went_by}
use Rattle.hpr_edit.proofs.Falls.{falls_at}
use Rattle.hpr_edit.proofs.Exchanged.{found_here, found_there, none_within, held_yes}
use Rattle.hpr_edit.proofs.exchange.+exchange.Goals as goal

pub exchange_within-returns-then-exchange-clause-changed :
    goal.exchange_within-returns-then-exchange-clause-changed
exchange_within-returns-then-exchange-clause-changed t c =
    let i = c.in-If in
    let le : times c.args.tag (before (If i.field-0 i.field-1 i.yes i.no) done) ≤ 1 = subst (λ s. times c.args.tag (before s done) ≤ 1) i.is c.requires.once in
    let one : 1 ≡ times c.args.tag i.yes = ap one_if (sym c.if-exchange.true) ∙ c.exchange.ensures.found in
    in_yes c.args.tag (placing c.args.hand.now) i.field-0 i.field-1 i.yes i.no c.exchange.new.block le one c.exchange.ensures.changed
    ∙ ap (in_part c.args.tag (placing c.args.hand.now)) (sym i.is)

pub exchange_within-returns-then-exchange-clause-hand :
    goal.exchange_within-returns-then-exchange-clause-hand
exchange_within-returns-then-exchange-clause-hand t c =
    let i = c.in-If in
    let le : times c.args.tag (before (If i.field-0 i.field-1 i.yes i.no) done) ≤ 1 = subst (λ s. times c.args.tag (before s done) ≤ 1) i.is c.requires.once in
    let one : 1 ≡ times c.args.tag i.yes = ap one_if (sym c.if-exchange.true) ∙ c.exchange.ensures.found in
    c.exchange.ensures.hand
    ∙ held_yes c.args.tag i.field-0 i.field-1 i.yes i.no c.args.hand.now le one
    ∙ ap (λ s. option_or (found_within c.args.tag s) c.args.hand.now) (sym i.is)

pub exchange_within-returns-else-exchange-clause-changed :
    goal.exchange_within-returns-else-exchange-clause-changed
exchange_within-returns-else-exchange-clause-changed t c =
    let i = c.in-If in
    let none : times c.args.tag i.yes ≡ 0 = sym c.exchange.ensures.found ∙ ap one_if c.if-exchange.false in
    let same : c.exchange.new.hand ≡ c.args.hand.now = c.exchange.ensures.hand ∙ ap (λ o. option_or o c.args.hand.now) (absent_found c.args.tag i.yes none) in
    ap (λ b. If i.field-0 i.field-1 b c.exchange-in-If.new.block) c.exchange.ensures.changed
    ∙ ap (λ b. If i.field-0 i.field-1 (at_part c.args.tag (placing c.args.hand.now) i.yes) b) (c.exchange-in-If.ensures.changed ∙ ap (λ o. at_part c.args.tag (placing o) i.no) same)
    ∙ ap (in_part c.args.tag (placing c.args.hand.now)) (sym i.is)

pub exchange_within-returns-else-exchange-clause-hand :
    goal.exchange_within-returns-else-exchange-clause-hand
exchange_within-returns-else-exchange-clause-hand t c =
    let i = c.in-If in
    let none : times c.args.tag i.yes ≡ 0 = sym c.exchange.ensures.found ∙ ap one_if c.if-exchange.false in
    let gone : find_stmt c.args.tag i.yes ≡ None = absent_found c.args.tag i.yes none in
    let same : c.exchange.new.hand ≡ c.args.hand.now = c.exchange.ensures.hand ∙ ap (λ o. option_or o c.args.hand.now) gone in
    c.exchange-in-If.ensures.hand
    ∙ ap (λ o. option_or (find_stmt c.args.tag i.no) o) same
    ∙ ap (λ o. option_or (option_or o (find_stmt c.args.tag i.no)) c.args.hand.now) (sym gone)
    ∙ ap (λ s. option_or (found_within c.args.tag s) c.args.hand.now) (sym i.is)

pub exchange-returns-then-eq-clause-changed : goal.exchange-returns-then-eq-clause-changed
exchange-returns-then-eq-clause-changed t c =
    let xs = c.loop-at.block-inside.stmts.items in
    let d = c.index.result.now in
    let f = placing c.args.hand.now in
    let h : c.loop-at.at < length xs = grind (arith, c.loop-at-test.true, c.loop-at.invariant.1) in
    let v : d ≡ get_or xs c.loop-at.at d = c.index.ensures in
    let w : same_tag (tag_of (get_or xs c.loop-at.at d)) c.args.tag ≡ true =
    ap (λ s. same_tag (tag_of s) c.args.tag) (sym v) ∙ ap (λ g. same_tag g c.args.tag) (sym c.tag.ensures) ∙ sym c.eq.ensures ∙ c.if-eq.true in
    c.exchange_at.ensures.changed
    ∙ ap (λ o. from c.loop-at.at (on_first (placing o)) (body_of xs)) c.loop-at.invariant.3
    ∙ at_it c.args.tag f c.loop-at.at xs d h c.loop-at.invariant.2 w
    ∙ ap (at_part c.args.tag f) c.loop-at.invariant.0

pub exchange-returns-then-eq-clause-found : goal.exchange-returns-then-eq-clause-found
exchange-returns-then-eq-clause-found t c =
    let xs = c.loop-at.block-inside.stmts.items in
    let d = c.index.result.now in
    let h : c.loop-at.at < length xs = grind (arith, c.loop-at-test.true, c.loop-at.invariant.1) in
    let k : Visit c.args.tag c.loop-at.at xs c.args.block.now d = visit c.args.tag c.loop-at.at xs c.args.block.now d h c.loop-at.invariant.2 c.loop-at.invariant.0 c.requires.once c.index.ensures in
    let w : same_tag (tag_of d) c.args.tag ≡ true = ap (λ g. same_tag g c.args.tag) (sym c.tag.ensures) ∙ sym c.eq.ensures ∙ c.if-eq.true in
    let one : 1 ≤ times c.args.tag (before d done) = times_head c.args.tag d done w in
    let le : times c.args.tag c.args.block.now ≤ 1 = c.requires.once in
    let e : times c.args.tag (body_of xs) ≡ times c.args.tag c.args.block.now = ap (times c.args.tag) c.loop-at.invariant.0 in
    omega (arith, k.here, one, le, e)

pub exchange-returns-then-eq-clause-hand : goal.exchange-returns-then-eq-clause-hand
exchange-returns-then-eq-clause-hand t c =
    let xs = c.loop-at.block-inside.stmts.items in
    let d = c.index.result.now in
    let h : c.loop-at.at < length xs = grind (arith, c.loop-at-test.true, c.loop-at.invariant.1) in
    let v : d ≡ get_or xs c.loop-at.at d = c.index.ensures in
    let w : same_tag (tag_of d) c.args.tag ≡ true = ap (λ g. same_tag g c.args.tag) (sym c.tag.ensures) ∙ sym c.eq.ensures ∙ c.if-eq.true in
    c.exchange_at.ensures.hand d
    ∙ ap Some (sym v)
    ∙ ap (λ o. option_or o c.args.hand.now) (sym (found_here c.args.tag c.loop-at.at xs c.args.block.now d h c.loop-at.invariant.2 c.loop-at.invariant.0 v w))

pub exchange-exchange_within-requires : goal.exchange-exchange_within-requires
exchange-exchange_within-requires t c =
    let xs = c.loop-at.block-inside.stmts.items in
    let d = c.index_mut.result.now in
    let h : c.loop-at.at < length xs = grind (arith, c.loop-at-test.true, c.loop-at.invariant.1) in
    let v : d ≡ get_or xs c.loop-at.at d = c.index_mut.ensures.value in
    let k : Visit c.args.tag c.loop-at.at xs c.args.block.now d = visit c.args.tag c.loop-at.at xs c.args.block.now d h c.loop-at.invariant.2 c.loop-at.invariant.0 c.requires.once v in
    let w = falls_at xs c.loop-at.at d c.args.block.now c.loop-at.invariant.0 h v in
    (search (rules, w), k.once)

pub exchange-returns-then-exchange_within-clause-changed :
    goal.exchange-returns-then-exchange_within-clause-changed
exchange-returns-then-exchange_within-clause-changed t c =
    let xs = c.loop-at.block-inside.stmts.items in
    let d = c.index_mut.result.now in
    let f = placing c.args.hand.now in
    let h : c.loop-at.at < length xs = grind (arith, c.loop-at-test.true, c.loop-at.invariant.1) in
    let v : d ≡ get_or xs c.loop-at.at d = c.index_mut.ensures.value in
    let k : Visit c.args.tag c.loop-at.at xs c.args.block.now d = visit c.args.tag c.loop-at.at xs c.args.block.now d h c.loop-at.invariant.2 c.loop-at.invariant.0 c.requires.once v in
    let i : c.index.result.now ≡ d = c.index.ensures ∙ get_or_default xs c.loop-at.at c.index.result.now d h ∙ sym v in
    let other : same_tag (tag_of d) c.args.tag ≡ false =
    ap (λ s. same_tag (tag_of s) c.args.tag) (sym i) ∙ ap (λ g. same_tag g c.args.tag) (sym c.tag.ensures) ∙ sym c.eq.ensures ∙ c.if-eq.false in
    let found : one_if (same_tag (tag_of d) c.args.tag) + 1 ≡ times c.args.tag (before d done) =
    ap (λ b. one_if (same_tag (tag_of d) c.args.tag) + one_if b) (sym c.if-exchange_within.true) ∙ c.exchange_within.ensures.found in
    went_in c.args.tag f c.loop-at.at xs c.args.block.now d c.exchange_within.new.stmt k c.loop-at.invariant.0 c.requires.once v other found
    (c.exchange_within.ensures.changed ∙ ap (λ o. in_part c.args.tag (placing o) d) c.loop-at.invariant.3)

pub exchange-returns-then-exchange_within-clause-found :
    goal.exchange-returns-then-exchange_within-clause-found
exchange-returns-then-exchange_within-clause-found t c =
    let xs = c.loop-at.block-inside.stmts.items in
    let d = c.index_mut.result.now in
    let h : c.loop-at.at < length xs = grind (arith, c.loop-at-test.true, c.loop-at.invariant.1) in
    let v : d ≡ get_or xs c.loop-at.at d = c.index_mut.ensures.value in
    let k : Visit c.args.tag c.loop-at.at xs c.args.block.now d = visit c.args.tag c.loop-at.at xs c.args.block.now d h c.loop-at.invariant.2 c.loop-at.invariant.0 c.requires.once v in
    let found : one_if (same_tag (tag_of d) c.args.tag) + 1 ≡ times c.args.tag (before d done) =
    ap (λ b. one_if (same_tag (tag_of d) c.args.tag) + one_if b) (sym c.if-exchange_within.true) ∙ c.exchange_within.ensures.found in
    let le : times c.args.tag c.args.block.now ≤ 1 = c.requires.once in
    let e : times c.args.tag (body_of xs) ≡ times c.args.tag c.args.block.now = ap (times c.args.tag) c.loop-at.invariant.0 in
    omega (arith, k.here, found, le, e)

pub exchange-returns-then-exchange_within-clause-hand :
    goal.exchange-returns-then-exchange_within-clause-hand
exchange-returns-then-exchange_within-clause-hand t c =
    let xs = c.loop-at.block-inside.stmts.items in
    let d = c.index_mut.result.now in
    let h : c.loop-at.at < length xs = grind (arith, c.loop-at-test.true, c.loop-at.invariant.1) in
    let v : d ≡ get_or xs c.loop-at.at d = c.index_mut.ensures.value in
    let k : Visit c.args.tag c.loop-at.at xs c.args.block.now d = visit c.args.tag c.loop-at.at xs c.args.block.now d h c.loop-at.invariant.2 c.loop-at.invariant.0 c.requires.once v in
    let i : c.index.result.now ≡ d = c.index.ensures ∙ get_or_default xs c.loop-at.at c.index.result.now d h ∙ sym v in
    let other : same_tag (tag_of d) c.args.tag ≡ false =
    ap (λ s. same_tag (tag_of s) c.args.tag) (sym i) ∙ ap (λ g. same_tag g c.args.tag) (sym c.tag.ensures) ∙ sym c.eq.ensures ∙ c.if-eq.false in
    let found : one_if (same_tag (tag_of d) c.args.tag) + 1 ≡ times c.args.tag (before d done) =
    ap (λ b. one_if (same_tag (tag_of d) c.args.tag) + one_if b) (sym c.if-exchange_within.true) ∙ c.exchange_within.ensures.found in
    c.exchange_within.ensures.hand
    ∙ ap (option_or (found_within c.args.tag d)) c.loop-at.invariant.3
    ∙ ap (λ o. option_or o c.args.hand.now) (sym (found_there c.args.tag c.loop-at.at xs c.args.block.now d k c.loop-at.invariant.0 c.requires.once v other found))

pub exchange-loop-at-preserved : goal.exchange-loop-at-preserved
exchange-loop-at-preserved t c =
    let xs = c.loop-at.block-inside.stmts.items in
    let d = c.index_mut.result.now in
    let h : c.loop-at.at < length xs = grind (arith, c.loop-at-test.true, c.loop-at.invariant.1) in
    let v : d ≡ get_or xs c.loop-at.at d = c.index_mut.ensures.value in
    let k : Visit c.args.tag c.loop-at.at xs c.args.block.now d = visit c.args.tag c.loop-at.at xs c.args.block.now d h c.loop-at.invariant.2 c.loop-at.invariant.0 c.requires.once v in
    let i : c.index.result.now ≡ d = c.index.ensures ∙ get_or_default xs c.loop-at.at c.index.result.now d h ∙ sym v in
    let other : same_tag (tag_of d) c.args.tag ≡ false =
    ap (λ s. same_tag (tag_of s) c.args.tag) (sym i) ∙ ap (λ g. same_tag g c.args.tag) (sym c.tag.ensures) ∙ sym c.eq.ensures ∙ c.if-eq.false in
    let found : one_if (same_tag (tag_of d) c.args.tag) + 0 ≡ times c.args.tag (before d done) =
    ap (λ b. one_if (same_tag (tag_of d) c.args.tag) + one_if b) (sym c.if-exchange_within.false) ∙ c.exchange_within.ensures.found in
    let z : times c.args.tag (before d done) ≡ 0 = omega (arith, found, ap one_if other) in
    let r = went_by c.args.tag (placing c.loop-at.hand) c.loop-at.at xs c.args.block.now d c.exchange_within.new.stmt k v other found c.exchange_within.ensures.changed in (
      ap body_of r.0 ∙ c.loop-at.invariant.0,
      c.loop-at.invariant.1,
      ap (λ ys. times c.args.tag (body_of (take (c.loop-at.at + 1) ys))) r.0 ∙ (rw add-one r.1),
      c.exchange_within.ensures.hand ∙ ap (λ o. option_or o c.loop-at.hand) (none_within c.args.tag d z) ∙ c.loop-at.invariant.3,
    )

pub exchange-returns-clause-changed : goal.exchange-returns-clause-changed
exchange-returns-clause-changed t c =
    let xs = c.loop-at.block-inside.stmts.items in
    let all : take c.loop-at.at xs ≡ xs = take_all c.loop-at.at xs (grind (arith, c.loop-at-test.false, c.loop-at.invariant.1)) in
    let z : times c.args.tag (body_of xs) ≡ 0 = ap (λ ys. times c.args.tag (body_of ys)) (sym all) ∙ c.loop-at.invariant.2 in
    c.loop-at.invariant.0 ∙ sym (absent c.args.tag (placing c.args.hand.now) c.args.block.now (ap (times c.args.tag) (sym c.loop-at.invariant.0) ∙ z))

pub exchange-returns-clause-hand : goal.exchange-returns-clause-hand
exchange-returns-clause-hand t c =
    let xs = c.loop-at.block-inside.stmts.items in
    let all : take c.loop-at.at xs ≡ xs = take_all c.loop-at.at xs (grind (arith, c.loop-at-test.false, c.loop-at.invariant.1)) in
    let z : times c.args.tag (body_of xs) ≡ 0 = ap (λ ys. times c.args.tag (body_of ys)) (sym all) ∙ c.loop-at.invariant.2 in
    c.loop-at.invariant.3
    ∙ ap (λ o. option_or o c.args.hand.now) (sym (absent_found c.args.tag c.args.block.now (ap (times c.args.tag) (sym c.loop-at.invariant.0) ∙ z)))
