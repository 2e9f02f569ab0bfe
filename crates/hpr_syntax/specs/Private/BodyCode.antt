-- A block's code tells blocks apart.
--
-- tag_inj    == two tags with the same code are the same
-- act_inj    == two tags, names and expressions with the same code are the same
-- body_inj   == two blocks with the same code are the same
-- body_coded == blocks with their codes
use Rattle.std.proofs.Common.{◌≡◌, ℕ, List, [], refl}
use Rattle.std.specs.Coded.{Coded, coded_list, coded_ℕ}
use Rattle.hpr_terms.specs.declared.tag.Tag.{Tag}
use Rattle.hpr_terms.specs.declared.expr.Expr.{Expr}
use Rattle.hpr_terms.specs.Private.TermCode.{cut, apart, name_inj}
pub use Rattle.hpr_terms.specs.Private.ExprCode.{expr_inj}
use Rattle.hpr_syntax.specs.Action.{assigns, writes, stores}
use Rattle.hpr_syntax.specs.Body.{Body, done, action, branch, loop}
use Rattle.hpr_syntax.specs.BodyOrder.{tag_code, act_code, body_code}

pub tag_inj : (x y : Tag) (s t : List ℕ) → tag_code x s ≡ tag_code y t → (x ≡ y) × (s ≡ t)
tag_inj x y s t p =
    let a = cut p in
    let b = cut a.1 in
    (λ i. record { author = a.0 i; serial = b.0 i }, b.1)

pub act_inj : (g h : Tag) (x y : List ℕ) (e f : Expr) (s t : List ℕ) → act_code g x e s ≡ act_code h y f t → (g ≡ h) × (x ≡ y) × (e ≡ f) × (s ≡ t)
act_inj g h x y e f s t p =
    let a = tag_inj g h _ _ p in
    let b = name_inj x y _ _ a.1 in
    let c = expr_inj e f _ _ b.1 in
    (a.0, b.0, c.0, c.1)

pub body_inj : (x y : Body) (s t : List ℕ) → body_code x s ≡ body_code y t → (x ≡ y) × (s ≡ t)
body_inj done done s t p = (refl, (cut p).1)
body_inj (action g (assigns x e) r) (action h (assigns y f) q) s t p =
    let a = act_inj g h x y e f (body_code r s) (body_code q t) (cut p).1 in
    let d = body_inj r q s t a.3 in
    (λ k. action (a.0 k) (assigns (a.1 k) (a.2 k)) (d.0 k), d.1)
body_inj (action g (writes x e) r) (action h (writes y f) q) s t p =
    let a = act_inj g h x y e f (body_code r s) (body_code q t) (cut p).1 in
    let d = body_inj r q s t a.3 in
    (λ k. action (a.0 k) (writes (a.1 k) (a.2 k)) (d.0 k), d.1)
body_inj (action g (stores x i e) r) (action h (stores y j f) q) s t p =
    let a = act_inj g h x y i j _ _ (cut p).1 in
    let b = expr_inj e f _ _ a.3 in
    let d = body_inj r q s t b.1 in
    (λ k. action (a.0 k) (stores (a.1 k) (a.2 k) (b.0 k)) (d.0 k), d.1)
body_inj (branch g e u v r) (branch h f u' v' q) s t p =
    let a = tag_inj g h _ _ (cut p).1 in
    let b = expr_inj e f _ _ a.1 in
    let c = body_inj u u' _ _ b.1 in
    let d = body_inj v v' _ _ c.1 in
    let i = body_inj r q s t d.1 in
    (λ k. branch (a.0 k) (b.0 k) (c.0 k) (d.0 k) (i.0 k), i.1)
body_inj (loop g e u r) (loop h f u' q) s t p =
    let a = tag_inj g h _ _ (cut p).1 in
    let b = expr_inj e f _ _ a.1 in
    let c = body_inj u u' _ _ b.1 in
    let d = body_inj r q s t c.1 in
    (λ k. loop (a.0 k) (b.0 k) (c.0 k) (d.0 k), d.1)
body_inj done (action h (assigns y f) q) s t p = absurd (apart p refl)
body_inj done (action h (writes y f) q) s t p = absurd (apart p refl)
body_inj done (action h (stores y j f) q) s t p = absurd (apart p refl)
body_inj (branch g e u v r) (action h (assigns y f) q) s t p = absurd (apart p refl)
body_inj (branch g e u v r) (action h (writes y f) q) s t p = absurd (apart p refl)
body_inj (branch g e u v r) (action h (stores y j f) q) s t p = absurd (apart p refl)
body_inj (loop g e u r) (action h (assigns y f) q) s t p = absurd (apart p refl)
body_inj (loop g e u r) (action h (writes y f) q) s t p = absurd (apart p refl)
body_inj (loop g e u r) (action h (stores y j f) q) s t p = absurd (apart p refl)
body_inj _ _ s t p = absurd (apart p refl)

abbrev pub body_coded : Coded Body
body_coded = record {
  code = λ x. (coded_list coded_ℕ).code (body_code x []);
  inj = λ x y p. (body_inj x y [] [] ((coded_list coded_ℕ).inj (body_code x []) (body_code y []) p)).0;
}
