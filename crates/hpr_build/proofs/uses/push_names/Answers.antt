use Rattle.std.proofs.Common.{◌≡◌, ◌⊎◌, ◌↔◌, ℕ, List, Contains, inl, inr, subst}
use Rattle.std.proofs.lemmas.List.{take_all}
use Rattle.hpr_terms.proofs.Facts.{in_none}
use Rattle.hpr_build.proofs.UseRows.{names_more, names_apart}
use Rattle.hpr_build.proofs.uses.push_names.Goals as goal

pub loop-name-init : goal.loop-name-init
loop-name-init c = record {
  exact = λ u. ((λ h. inl h), (λ h. elim h [ inl was ↦ was | inr k ↦ absurd (in_none u.name k.0) ]));
  once = λ once below. once;
}

pub loop-name-preserved : goal.loop-name-preserved
loop-name-preserved c =
    let names = c.args.names.now in
    let k = c.loop-name.name-index in
    let name = c.name-item.result in
    let old = c.args.into.now.items in
    let was = c.loop-name.into.items in
    let now = c.push_use.new.into.items in
    let items = c.in_ok-push_use.ensures in
    record {
      exact = names_more names k name c.args.number old was now c.loop-name-test.true c.name-item.is items c.loop-name.invariant.exact;
      once = λ once below. names_apart names k name c.args.number old was now c.loop-name-test.true c.name-item.is items c.loop-name.invariant.exact c.requires (c.loop-name.invariant.once once below) below;
    }

pub returns-clause-exact : goal.returns-clause-exact
returns-clause-exact c = λ u.
    let P : List (List ℕ) → Type 0 = λ xs. Contains c.loop-name.into.items u ↔ (Contains c.args.into.now.items u ⊎ (Contains xs u.name × (c.args.number ≡ u.number))) in
    subst P (take_all c.loop-name.name-index c.args.names.now c.loop-name-test.false) (c.loop-name.invariant.exact u)
