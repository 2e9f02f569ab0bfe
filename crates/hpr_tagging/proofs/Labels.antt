-- Which serials are put in.
use Rattle.std.proofs.Common.{◌≡◌, ℕ, zero, suc, ◌+◌, cond, eqb, eq-eqb, Bool, true, false, not, ◌&&◌, List, [], ◌∷◌, ◌++◌, Option, Some, None, refl, sym, ap, ◌∙◌, arith}
use Rattle.std.proofs.lemmas.Bool.Decides.{nat_tests}
use Rattle.hpr_tagging.specs.declared.lexemes.Kind.{Kind}
use Rattle.hpr_tagging.specs.declared.lexemes.Kind.TheVariants.{Other}
use Rattle.hpr_tagging.specs.declared.lexemes.Begun.TheVariants.{Nothing}
use Rattle.hpr_tagging.specs.declared.lexemes.Lexeme.{Lexeme}
use Rattle.hpr_tagging.specs.declared.counts.Numbering.{Numbering}
use Rattle.hpr_tagging.specs.declared.changes.Put.{Put}
use Rattle.hpr_tagging.specs.declared.changes.Put.TheVariants.{Label, Raised, Pair}
use Rattle.hpr_tagging.specs.declared.changes.Change.{Change}
use Rattle.hpr_tagging.specs.Lexemes.{some_of, lexemes}
use Rattle.hpr_tagging.specs.Tagging.{lacks_tag, lacking, is_pair, opens_header, greatest_in, untagged, numbering_of, put_at, change_by, changes, changes_of, changed, changes_in, kept}
use Rattle.hpr_tagging.specs.Laws.{label_of, labels, serials_from}

-- the serials of what may be put in
abbrev label_some : Option Put → List ℕ
label_some None = []
label_some (Some p) = label_of p

labels_next : (o : Option Put) (l : Lexeme) (cs : List Change) → labels (some_of (change_by o l) ++ cs) ≡ label_some o ++ labels cs
labels_next None l cs = refl
labels_next (Some p) l cs = refl

no_label : (b c : Bool) (n : ℕ) → label_some (cond b (Some (Raised n)) (cond c (Some (Pair n)) None)) ≡ []
no_label true c n = refl
no_label false true n = refl
no_label false false n = refl

-- what a lexeme adds to the serials, where v says whether a part without a tag begins with it
one_more : (v b c : Bool) (n k last : ℕ) (more : List ℕ) → more ≡ serials_from (n + cond v 1 0 + 1) k
    → label_some (cond v (Some (Label (n + 1))) (cond b (Some (Raised last)) (cond c (Some (Pair last)) None))) ++ more ≡ serials_from (n + 1) (cond v 1 0 + k)
one_more true b c n k last more h =
    let e : 1 + k ≡ suc k = omega arith in
    ap (λ (xs : List ℕ). (n + 1) ∷ xs) h ∙ sym (ap (serials_from (n + 1)) e)
one_more false b c n k last more h =
    let e : 0 + k ≡ k = omega arith in
    let f : n + 0 + 1 ≡ n + 1 = omega arith in
    ap (λ (xs : List ℕ). xs ++ more) (no_label b c last) ∙ h ∙ ap (λ j. serials_from j k) f ∙ sym (ap (serials_from (n + 1)) e)

labels_are : (m : Numbering) (n : ℕ) (x y : Kind) (ls : List Lexeme) → labels (changes m n x y ls) ≡ serials_from (n + 1) (untagged x y ls)
labels_are m n x y [] = refl
labels_are m n x y (l ∷ ls) =
    let z = l.kind in
    labels_next (put_at m n x y z) l (changes m (n + lacking x y z) y z ls)
    ∙ one_more (lacks_tag x y z) (is_pair m.author x y z) (not m.is_listed && opens_header y z) n (untagged y z ls) m.last _
    (labels_are m (n + lacking x y z) y z ls)

other_number : (a b u : ℕ) → b ≡ a + suc u → eqb a b ≡ false
other_number a b u e = grind (arith, nat_tests)

labels_of : (m : Numbering) (ls : List Lexeme) (g u : ℕ) → m.greatest ≡ g → m.last ≡ g + u → u ≡ untagged Other Other ls
    → labels (changes_of m ls) ≡ serials_from (g + 1) u
labels_of m ls g zero g_is l_is u_is =
    let same : eqb m.greatest m.last ≡ true = eq-eqb m.greatest m.last (omega (arith, g_is, l_is)) in
    ap (λ (b : Bool). labels (cond b [] (changes m m.greatest Other Other ls))) same
labels_of m ls g (suc u) g_is l_is u_is =
    let other : eqb m.greatest m.last ≡ false = other_number m.greatest m.last u (omega (arith, g_is, l_is)) in
    ap (λ (b : Bool). labels (cond b [] (changes m m.greatest Other Other ls))) other ∙ labels_are m m.greatest Other Other ls
    ∙ ap (λ j. serials_from (j + 1) (untagged Other Other ls)) g_is ∙ ap (serials_from (g + 1)) (sym u_is)

pub new_serials : (a : ℕ) (bytes : List ℕ)
    → labels (changes_in a bytes) ≡ serials_from (greatest_in a Other Other (lexemes Nothing 0 bytes) + 1) (untagged Other Other (lexemes Nothing 0 bytes))
unfolding changes_in
new_serials a bytes =
    let ls = lexemes Nothing 0 bytes in
    labels_of (numbering_of a ls) ls (greatest_in a Other Other ls) (untagged Other Other ls) refl refl refl

none_put : (m : Numbering) (ls : List Lexeme) → m.last ≡ m.greatest → changes_of m ls ≡ []
none_put m ls e =
    let same : eqb m.greatest m.last ≡ true = eq-eqb m.greatest m.last (sym e) in
    ap (λ (b : Bool). cond b [] (changes m m.greatest Other Other ls)) same

pub tagged_stays : (a : ℕ) (bytes : List ℕ) → untagged Other Other (lexemes Nothing 0 bytes) ≡ 0 → kept a bytes ≡ bytes
unfolding changes_in
tagged_stays a bytes h =
    let ls = lexemes Nothing 0 bytes in
    ap (changed a bytes 0) (none_put (numbering_of a ls) ls (omega (arith, h)))
