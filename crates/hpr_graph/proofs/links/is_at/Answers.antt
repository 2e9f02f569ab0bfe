use Rattle.std.proofs.Common.{◌≡◌, ◌∙◌, Bool, true, false, ◌&&◌, Some, is_some, refl, ap, sym, slice_get}
use Rattle.std.proofs.lemmas.Bool.{eqb-true, false≢true}
use Rattle.std.proofs.lemmas.Option.{slice_get_read, slice_get_past}
use Rattle.hpr_terms.proofs.Facts.{some_inj}
use Rattle.hpr_graph.specs.declared.link.LinkKind.{LinkKind}
use Rattle.hpr_graph.specs.declared.link.LinkKind.TheVariants.{Control, Independent, Carried, Order}
use Rattle.hpr_graph.specs.declared.link.Link.{Link}
use Rattle.hpr_graph.specs.contracts.link.LinkKindPartialEq.TheImpl as kinds
use Rattle.hpr_graph.specs.contracts.link.LinkPartialEq.TheImpl as links
use Rattle.hpr_graph.specs.contracts.link.LinkEq.TheImpl.Laws as laws
use Rattle.hpr_graph.proofs.links.is_at.Goals as goal

same_kind : (k m : LinkKind) → (kinds.ghosts).eq k m ≡ true → k ≡ m
same_kind (Control true) (Control true) e = refl
same_kind (Control false) (Control false) e = refl
same_kind Independent Independent e = refl
same_kind (Carried w) (Carried x) e = ap Carried (eqb-true w x e)
same_kind (Order u) (Order v) e = ap Order (eqb-true u v e)
same_kind _ _ e = absurd (false≢true e)

both_true : (a b : Bool) → (a && b) ≡ true → (a ≡ true) × (b ≡ true)
both_true true b e = (refl, e)
both_true false b e = absurd (false≢true e)

same : (l m : Link) → (links.ghosts).eq l m ≡ true → l ≡ m
same l m e =
    let (from, kind) = both_true _ _ e in
    let a : l.from ≡ m.from = eqb-true l.from m.from from in
    let b : l.kind ≡ m.kind = same_kind l.kind m.kind kind in
    (λ i. record { from = a i; kind = b i })

pub returns-in-Some : goal.returns-in-Some
returns-in-Some c =
    let there : slice_get c.args.links.now c.args.at ≡ Some c.in-Some.there.now =
    slice_get_read _ _ c.args.at _ refl c.in-Some.ensures.lookup.3.0 c.in-Some.ensures.lookup.1 in (
      λ t. there ∙ ap Some (same _ _ (sym c.eq.ensures ∙ t)),
      λ h. c.eq.ensures ∙ ap (λ (l : Link). (links.ghosts).eq l c.args.link) (some_inj _ _ (sym there ∙ h)) ∙ (laws.laws-law).refl c.args.link,
    )

pub returns-in-None : goal.returns-in-None
returns-in-None c = (λ t. absurd (false≢true t), λ h. ap is_some (sym (slice_get_past c.args.links.now c.args.at c.in-None.ensures.lookup.3) ∙ h))
