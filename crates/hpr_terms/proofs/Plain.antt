-- Which variables are plain names, and which are arrays.
use Rattle.std.proofs.Common.{◌≡◌, ℕ, ◌+◌, ◌-◌, ◌≤◌, Bool, true, false, not, ◌||◌, ◌&&◌, if◌then◌else◌, List, [], ◌∷◌, ◌++◌, length, take, drop, get_or, codes, refl, sym, ap, ◌∙◌, subst, arith, length-append}
use Rattle.std.proofs.lemmas.Slice.Eq.{bytes_eq-Decides}
use Rattle.std.proofs.lemmas.List.{take-append-drop}
use Rattle.std.proofs.lemmas.List.Folds.{list_all-append}
use Rattle.std.proofs.Math.Seq.{drop-append_seam, take-append_seam, get_or-append_seam}
use Rattle.std.specs.List.{list_all}
use Rattle.std.specs.Str.{bytes_eq}
use Rattle.hpr_terms.specs.Keywords.{keyword_of}
use Rattle.hpr_terms.specs.Names.{is_name, is_name_like, is_name_byte, IsName, stream, is_stream, array_of, is_array, IsArray, base_of, is_variable, IsVariable}
use Rattle.hpr_terms.proofs.Facts.{and_both, or_left, or_right}

differ : true ≡ false → ⊥
differ e = cc

pub stream_is : (x : List ℕ) → is_stream x ≡ true → x ≡ stream
stream_is x e = (bytes_eq-Decides x stream).0 e

either : (a b : Bool) → (a || b) ≡ true → b ≡ false → a ≡ true
either true b e f = refl
either false true e f = absurd (differ f)
either false false e f = absurd (differ (sym e))

-- what is neither the stream nor an array is a plain name
pub plain_name : (x : List ℕ) → IsVariable x → is_stream x ≡ false → is_array x ≡ false → IsName x
unfolding is_variable
plain_name x h e a = either (is_name x) (is_stream x) (either (is_name x || is_stream x) (is_array x) h a) e

-- what is known of a name is known of a variable
pub name_is_variable : (x : List ℕ) → IsName x → IsVariable x
unfolding is_variable
name_is_variable x h = or_left (is_name x || is_stream x) (is_array x) (or_left (is_name x) (is_stream x) h)

pub stream_is_variable : IsVariable stream
unfolding is_variable
stream_is_variable = or_left (is_name stream || is_stream stream) (is_array stream) (or_right (is_name stream) (is_stream stream) refl)

stream_is_no_name : IsName stream → ⊥
unfolding is_name is_name_like is_name_byte keyword_of
stream_is_no_name h = cc

-- no name is the stream's
pub name_not_stream : (x : List ℕ) → IsName x → is_stream x ≡ false
name_not_stream x h = go (is_stream x) refl
  where
    go : (b : Bool) → is_stream x ≡ b → is_stream x ≡ false
    go false e = e
    go true e = absurd (stream_is_no_name (subst IsName (stream_is x e) h))

-- ---- arrays

-- the two parts of an array's name
brackets_length : (x : List ℕ) → length (array_of x) - 2 ≡ length x
brackets_length x = omega (arith, length-append x (codes "[]"))

front_of : (x : List ℕ) → take (length (array_of x) - 2) (array_of x) ≡ x
front_of x = ap (λ n. take n (array_of x)) (brackets_length x) ∙ take-append_seam x (codes "[]")

back_of : (x : List ℕ) → drop (length (array_of x) - 2) (array_of x) ≡ codes "[]"
back_of x = ap (λ n. drop n (array_of x)) (brackets_length x) ∙ drop-append_seam x (codes "[]")

both_true : (a b : Bool) → a ≡ true → b ≡ true → (a && b) ≡ true
both_true true b e f = f
both_true false b e f = absurd (differ (sym e))

-- a name and `[]` are an array's name, whose base is the name
pub array_is : (x : List ℕ) → IsName x → IsArray (array_of x)
unfolding is_array
array_is x h =
    both_true (bytes_eq (drop (length (array_of x) - 2) (array_of x)) (codes "[]")) (is_name (take (length (array_of x) - 2) (array_of x)))
    ((bytes_eq-Decides _ (codes "[]")).1 (back_of x)) (ap is_name (front_of x) ∙ h)

pub array_is_variable : (x : List ℕ) → IsName x → IsVariable (array_of x)
unfolding is_variable
array_is_variable x h = or_right (is_name (array_of x) || is_stream (array_of x)) (is_array (array_of x)) (array_is x h)

then_one : {X : Type 0} (b : Bool) (x y : X) → b ≡ true → (if b then x else y) ≡ x
then_one true x y e = refl
then_one false x y e = absurd (differ (sym e))

-- and each array's name is so
pub array_parts : (w : List ℕ) → IsArray w → (w ≡ array_of (base_of w)) × IsName (base_of w)
unfolding is_array base_of
array_parts w h =
    let two = and_both (bytes_eq (drop (length w - 2) w) (codes "[]")) (is_name (take (length w - 2) w)) h in
    let back : drop (length w - 2) w ≡ codes "[]" = (bytes_eq-Decides _ (codes "[]")).0 two.0 in
    let base : base_of w ≡ take (length w - 2) w = then_one (is_array w) (take (length w - 2) w) w h in
    (sym (take-append-drop (length w - 2) w) ∙ ap (λ z. take (length w - 2) w ++ z) back ∙ ap array_of (sym base), ap is_name base ∙ two.1)

and_last : (a b : Bool) → b ≡ false → (a && b) ≡ false
and_last true b e = e
and_last false b e = refl

ends_wrong : (x : List ℕ) → list_all is_name_byte (array_of x) ≡ false
unfolding is_name_byte
ends_wrong x = list_all-append is_name_byte x (codes "[]") ∙ and_last (list_all is_name_byte x) (list_all is_name_byte (codes "[]")) refl

array_no_name : (x : List ℕ) → IsName (array_of x) → ⊥
unfolding is_name is_name_like
array_no_name x h =
    let like = (and_both _ _ h).0 in
    let bytes = (and_both _ _ (and_both _ _ like).0).1 in
    differ (sym bytes ∙ ends_wrong x)

-- no name is an array's
pub name_not_array : (x : List ℕ) → IsName x → is_array x ≡ false
name_not_array x h = go (is_array x) refl
  where
    go : (b : Bool) → is_array x ≡ b → is_array x ≡ false
    go false e = e
    go true e = absurd (array_no_name (base_of x) (subst IsName (array_parts x e).0 h))

-- a variable is a plain name where it is neither the stream nor an array
plain_unless : (x : List ℕ) (b : Bool) → IsVariable x → is_stream x ≡ false → is_array x ≡ b → not b ≡ is_name x
plain_unless x false h e f = sym (plain_name x h e f)
plain_unless x true h e f = go (is_name x) refl
  where
    go : (b : Bool) → is_name x ≡ b → false ≡ is_name x
    go false g = sym g
    go true g = absurd (differ (sym f ∙ name_not_array x g))

pub plain_is : (x y : List ℕ) (a s : Bool) → IsVariable x → y ≡ x → s ≡ is_stream x → s ≡ false → a ≡ is_array y → not a ≡ is_name x
plain_is x y a s h same e off f = plain_unless x a h (sym e ∙ off) (sym (f ∙ ap is_array same))

pub stream_unless : (x : List ℕ) (s : Bool) → s ≡ is_stream x → s ≡ true → not s ≡ is_name x
stream_unless x s e on = ap not on ∙ go (is_name x) refl
  where
    go : (b : Bool) → is_name x ≡ b → false ≡ is_name x
    go false g = sym g
    go true g = absurd (differ (sym (sym e ∙ on) ∙ name_not_stream x g))

-- an array's name is ASCII where its base ends
pub base_ends : (w : List ℕ) → is_array w ≡ true → (2 ≤ length w) × (get_or w (length w - 2) 0 ≡ 91)
base_ends w h =
    let x = base_of w in
    let is : w ≡ array_of x = (array_parts w h).0 in
    let long : length w ≡ length x + 2 = ap length is ∙ length-append x (codes "[]") in
    let at : length w - 2 ≡ length x = omega (arith, long) in
    (omega (arith, long), ap (λ z. get_or z (length w - 2) 0) is ∙ ap (λ n. get_or (array_of x) n 0) at ∙ get_or-append_seam x 91 (93 ∷ []) 0)
