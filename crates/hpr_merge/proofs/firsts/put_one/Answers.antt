use Rattle.std.proofs.Common.{◌≡◌, ℕ, ◌∷◌, [], Option, Some, None, true, false, List, length, slice_get, slice_set, refl, sym, ◌∙◌, subst}
use Rattle.std.specs.Option.{is_some}
use Rattle.std.proofs.lemmas.Option.{slice_get_read}
use Rattle.hpr_graph.specs.declared.link.Link.{Link}
use Rattle.hpr_merge.specs.Firsts.{ArePut}
use Rattle.hpr_merge.proofs.Putting.{one_kept, one_put}
use Rattle.hpr_merge.proofs.firsts.put_one.Goals as goal

is_there : (o : Option (ℕ × Link)) → is_some o ≡ true → (d : ℕ × Link) × (o ≡ Some d)
is_there None e = absurd cc
is_there (Some d) e = (d, refl)

is_blank : (o : Option (ℕ × Link)) → is_some o ≡ false → o ≡ None
is_blank None e = refl
is_blank (Some d) e = absurd cc

pub returns-then-is_some : goal.returns-then-is_some
returns-then-is_some c =
    let os = c.args.firsts.now.items in
    let p = c.args.point in
    let (d, is) = is_there c.index.result.now (sym c.is_some.ensures ∙ c.if-is_some.true) in
    let at : slice_get os p ≡ Some c.index.result.now = slice_get_read os (length os) p c.index.result.now refl c.requires c.index.ensures in
    one_kept c.args.link p os c.args.waiting.now.items d (subst (λ (o : Option (ℕ × Link)). slice_get os p ≡ Some o) is at)

pub returns : goal.returns
returns c =
    let os = c.args.firsts.now.items in
    let p = c.args.point in
    let ws = c.args.waiting.now.items in
    let is = is_blank c.index.result.now (sym c.is_some.ensures ∙ c.if-is_some.false) in
    let at : slice_get os p ≡ Some c.index.result.now = slice_get_read os (length os) p c.index.result.now refl c.requires c.index.ensures in
    subst (λ (xs : List ℕ). ArePut (p ∷ []) c.args.link os (slice_set os p (Some c.args.link)) ws xs) (sym c.in_ok-push.ensures.items)
    (one_put c.args.link p os ws c.requires (subst (λ (o : Option (ℕ × Link)). slice_get os p ≡ Some o) is at))
