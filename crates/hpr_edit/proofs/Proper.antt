-- What a command leaves has names that are variables and numbers in range.
use Rattle.std.proofs.Common.{◌≡◌, ℕ, ◌+◌, ◌≤◌, ◌<◌, ◌==◌, Bool, true, false, not, max, if◌then◌else◌, nat_lt, None, Result, Ok, Err, List, [], ◌∷◌, refl, ap, sym, ◌∙◌, subst, arith}
use Rattle.std.specs.List.{AllByRecursion}
use Rattle.std.specs.Result.{OnErr, IfOk}
use Rattle.std.proofs.lemmas.List.Elements.{All-from_recursion, recursion_from_All, All-nil}
use Rattle.std.proofs.lemmas.Bool.{leb-false}
use Rattle.hpr_terms.specs.declared.limits.TheConstants.{TAG_NUMBERS}
use Rattle.hpr_terms.specs.declared.tag.Tag.{Tag}
use Rattle.hpr_terms.specs.Names.{IsVariable}
use Rattle.hpr_terms.proofs.Facts.{not_is}
use Rattle.hpr_syntax.specs.declared.tree.Stmt.{Stmt}
use Rattle.hpr_syntax.specs.declared.tree.Stmt.TheVariants.{Assign, If, While, Write, Store}
use Rattle.hpr_syntax.specs.declared.rows.Content.{Content}
use Rattle.hpr_syntax.specs.declared.rows.Content.TheVariants as content
use Rattle.hpr_syntax.specs.Action.{assigns, writes, stores}
use Rattle.hpr_syntax.specs.Body.{Body, done, action, branch, loop}
use Rattle.hpr_syntax.specs.BodyOf.{before}
use Rattle.hpr_syntax.specs.Parts.{find_stmt}
use Rattle.hpr_syntax.specs.Rows.{content_of, made}
use Rattle.hpr_syntax.specs.Issued.{Issued, issued_to, raised}
use Rattle.hpr_syntax.specs.Proper.{IsProper, IsProperBody, IsProperContent, IsProperPair, IsProperTag}
use Rattle.hpr_syntax.specs.Tree.{Tree}
use Rattle.hpr_syntax.specs.Shape.{IsProgram, shape}
use Rattle.hpr_syntax.proofs.ProperLemmas.{proper_before}
use Rattle.hpr_syntax.proofs.IssuedLemmas.{raised_keeps}
use Rattle.hpr_edit.specs.declared.command.Command.{Command}
use Rattle.hpr_edit.specs.declared.command.Command.TheVariants.{Insert, Delete, Move, Set, Wrap, Unwrap, Finals}
use Rattle.hpr_edit.specs.declared.command.Inverse.{Inverse}
use Rattle.hpr_edit.specs.declared.command.EditError.{EditError}
use Rattle.hpr_edit.specs.declared.command.EditError.TheVariants.{SerialsSpent}
use Rattle.hpr_edit.specs.Places.{joined, is_place, place_of}
use Rattle.hpr_edit.specs.Changes.{at_part, gone, saying, wrapped, unwrapped}
use Rattle.hpr_edit.specs.Edited.{becomes, edited, settled, next_tag, with_new, is_spent, same_kind, is_action, stands_in}
use Rattle.hpr_edit.specs.Reverted.{Undoes, IsPutBackIssued}
use Rattle.hpr_edit.specs.InPlace.{times, tree_of, Makes, IsProperCommand}
use Rattle.hpr_edit.proofs.Around.{Around, here, past, first, second, inside, plug, times_before, times_plug}
use Rattle.hpr_edit.proofs.Placed.{PlacedIn, placed_in}
use Rattle.hpr_edit.proofs.Tags.{once}
use Rattle.hpr_edit.proofs.Undone.{refuse_is, found_is, FoundIs, unless_is, settled_is, Known, known, known_at}
use Rattle.hpr_edit.proofs.Back.{ready}

-- a block by its first part and the rest
proper_split : (s : Stmt) (b : Body) → IsProperBody (before s b) → IsProperBody (before s done) × IsProperBody b
proper_split (If t e x y) b h = ((h.0, h.1, h.2, h.3, tt), h.4)
proper_split (Store t x i e) b h = ((h.0, h.1, h.2, h.3, tt), h.4)
proper_split (Assign t x e) b h = ((h.0, h.1, h.2, tt), h.3)
proper_split (While t e x) b h = ((h.0, h.1, h.2, tt), h.3)
proper_split (Write t x e) b h = ((h.0, h.1, h.2, tt), h.3)

-- what stands at one place
proper_plug : (c : Around) (x y : Body) → IsProperBody (plug c y) → IsProperBody x → IsProperBody (plug c x)
proper_plug here x y h k = k
proper_plug (past s c) x y h k =
    let p = proper_split s (plug c y) h in
    proper_before s (plug c x) p.0 (proper_plug c x y p.1 k)
proper_plug (first t e c b rest) x y h k = (h.0, h.1, proper_plug c x y h.2 k, h.3, h.4)
proper_plug (second t e a c rest) x y h k = (h.0, h.1, h.2, proper_plug c x y h.3 k, h.4)
proper_plug (inside t e c rest) x y h k = (h.0, h.1, proper_plug c x y h.2 k, h.3)

proper_there : (c : Around) (y : Body) → IsProperBody (plug c y) → IsProperBody y
proper_there here y h = h
proper_there (past s c) y h = proper_there c y (proper_split s (plug c y) h).1
proper_there (first t e c b rest) y h = proper_there c y h.2
proper_there (second t e a c rest) y h = proper_there c y h.3
proper_there (inside t e c rest) y h = proper_there c y h.2

proper_joined : (a b : Body) → IsProperBody a → IsProperBody b → IsProperBody (joined a b)
proper_joined done b h k = k
proper_joined (action t (assigns x e) rest) b h k = (h.0, h.1, h.2, proper_joined rest b h.3 k)
proper_joined (action t (writes x e) rest) b h k = (h.0, h.1, h.2, proper_joined rest b h.3 k)
proper_joined (action t (stores x i e) rest) b h k = (h.0, h.1, h.2, h.3, proper_joined rest b h.4 k)
proper_joined (branch t e x y rest) b h k = (h.0, h.1, h.2, h.3, proper_joined rest b h.4 k)
proper_joined (loop t e x rest) b h k = (h.0, h.1, h.2, proper_joined rest b h.3 k)

-- a part by its tag, what it says and its blocks
proper_made : (t : Tag) (c : Content) (a b rest : Body) → IsProperTag t → IsProperContent c → IsProperBody a → IsProperBody b → IsProperBody rest → IsProperBody (before (made t c a b) rest)
proper_made t (content.If e) a b rest tag said x y z = (tag, said, x, y, z)
proper_made t (content.While e) a b rest tag said x y z = (tag, said, x, z)
proper_made t (content.Assign v e) a b rest tag said x y z = (tag, said.0, said.1, z)
proper_made t (content.Write v e) a b rest tag said x y z = (tag, said.0, said.1, z)
proper_made t (content.Store v i e) a b rest tag said x y z = (tag, said.0, said.1, said.2, z)

proper_saying : (c : Content) (s : Stmt) (rest : Body) → IsProperContent c → same_kind c (content_of s) ≡ true → IsProperBody (before s rest) → IsProperBody (saying c s rest)
proper_saying (content.If e) (If t f a b) rest said same h = (h.0, said, h.2, h.3, h.4)
proper_saying (content.While e) (While t f b) rest said same h = (h.0, said, h.2, h.3)
proper_saying (content.Assign v e) (Assign t y f) rest said same h = (h.0, said.0, said.1, h.3)
proper_saying (content.Write v e) (Write t y f) rest said same h = (h.0, said.0, said.1, h.3)
proper_saying (content.Store v i e) (Store t y j f) rest said same h = (h.0, said.0, said.1, said.2, h.4)
proper_saying c s rest said same h = absurd cc

proper_unwrapped : (s : Stmt) (rest : Body) → IsProperBody (before s rest) → IsProperBody (unwrapped s rest)
proper_unwrapped (If t e a b) rest h = proper_joined a (joined b rest) h.2 (proper_joined b rest h.3 h.4)
proper_unwrapped (While t e b) rest h = proper_joined b rest h.2 h.3
proper_unwrapped (Store t x i e) rest h = h.4
proper_unwrapped (Assign t x e) rest h = h.3
proper_unwrapped (Write t x e) rest h = h.3

-- the issued numbers of a new part
raised_pairs : (a n : ℕ) (ps : Issued) → a < TAG_NUMBERS → n < TAG_NUMBERS → AllByRecursion IsProperPair ps → AllByRecursion IsProperPair (raised a n ps)
raised_pairs a n [] low few all = ((low, few), tt)
raised_pairs a n (p ∷ ps) low few all = by (nat_lt a p.0) (p.0 == a) (raised_pairs a n ps low few all.1)
  where
    by : (b c : Bool) → AllByRecursion IsProperPair (raised a n ps) → AllByRecursion IsProperPair (if b then (a, n) ∷ p ∷ ps else if c then (a, max p.1 n) ∷ ps else p ∷ raised a n ps)
    by true c rest = ((low, few), all)
    by false true rest = ((low, omega (arith, few, all.0.1)), all.1)
    by false false rest = (all.0, rest)

low_next : (author : ℕ) (issued : Issued) → is_spent author issued ≡ false → issued_to author issued + 1 < TAG_NUMBERS
low_next author issued h = omega (arith, leb-false _ _ h)

module _ (p : Tree) (is : IsProgram p) where
  same_proper : (b : Body) → IsProperBody b → IsProper (record p { body = b })
  same_proper b h = record { ascending = is.proper.ascending; numbers = is.proper.numbers; body = h; finals = is.proper.finals }

  new_proper : (author : ℕ) (b : Body) → author < TAG_NUMBERS → is_spent author p.issued ≡ false → IsProperBody b → IsProper (with_new author b p)
  new_proper author b low spare h = record {
    ascending = raised_keeps author (issued_to author p.issued + 1) p.issued (omega arith) is.proper.ascending;
    numbers = All-from_recursion IsProperPair _
        (raised_pairs author (issued_to author p.issued + 1) p.issued low (low_next author p.issued spare) (recursion_from_All IsProperPair p.issued is.proper.numbers));
    body = h;
    finals = is.proper.finals;
  }

program_end : (t q : Tree) (inv i : Inverse) → settled t inv ≡ becomes q i → IsProper t → IsProgram q
program_end t q inv i h k =
    let e = settled_is t q inv i h in
    let s : shape t ≡ None = (unless_is (shape t) (becomes t inv) q i h).0 in
    subst (λ x. IsProgram x) e.0 (record { proper = k; shape = s })

pub left_program : (p : Tree) → IsProgram p → (c : Command) → IsProperCommand c → (author : ℕ) → author < TAG_NUMBERS → (q : Tree) (i : Inverse) → edited p c author ≡ becomes q i → IsProgram q
left_program p is (Insert place c) said author low q i h =
    let a : (not (is_place place p.body) ≡ false) × _ = refuse_is _ (not (is_place place p.body)) _ q i h in
    let b : (is_spent author p.issued ≡ false) × _ = refuse_is SerialsSpent (is_spent author p.issued) _ q i a.1 in
    let new : Tag = next_tag author p.issued in
    let k : PlacedIn place p.body = placed_in place p.body (once p is) (not_is _ a.0) in
    let was : IsProperBody (plug k.around k.rest) = subst (λ x. IsProperBody x) k.is is.proper.body in
    program_end _ q _ i b.1 (new_proper p is author _ low b.0 (subst (λ x. IsProperBody x) (sym (k.change (before (made new c done done))))
    (proper_plug k.around (before (made new c done done) k.rest) k.rest was
    (proper_made new c done done k.rest (low, low_next author p.issued b.0) said tt tt (proper_there k.around k.rest was)))))
left_program p is (Delete t) said author low q i h =
    let f : FoundIs (find_stmt t p.body) (place_of t p.body) _ q i = found_is t _ _ _ q i h in
    let k : Known t p.body f.part f.place = known t p.body f.part f.place (once p is) f.part_is f.place_is in
    let was : IsProperBody (plug k.around (before f.part k.rest)) = subst (λ x. IsProperBody x) k.is is.proper.body in
    program_end _ q _ i f.then (same_proper p is _ (subst (λ x. IsProperBody x) (sym (known_at t p.body f.part f.place k gone))
    (proper_plug k.around k.rest (before f.part k.rest) was (proper_split f.part k.rest (proper_there k.around (before f.part k.rest) was)).1)))
left_program p is (Move t place) said author low q i h =
    let f : FoundIs (find_stmt t p.body) (place_of t p.body) _ q i = found_is t _ _ _ q i h in
    let k : Known t p.body f.part f.place = known t p.body f.part f.place (once p is) f.part_is f.place_is in
    let a = refuse_is _ (stands_in place.parent f.part) _ q i f.then in
    let b : (not (is_place place (at_part t gone p.body)) ≡ false) × _ = refuse_is _ (not (is_place place (at_part t gone p.body))) _ q i a.1 in
    let e : at_part t gone p.body ≡ plug k.around k.rest = known_at t p.body f.part f.place k gone in
    let le : (u : Tag) → times u (at_part t gone p.body) ≤ 1 =
    λ u. omega (arith, ap (times u) e, k.once u, times_plug u k.around k.rest, times_plug u k.around (before f.part k.rest), times_before u f.part k.rest) in
    let l : PlacedIn place (at_part t gone p.body) = placed_in place (at_part t gone p.body) le (not_is _ b.0) in
    let was : IsProperBody (plug k.around (before f.part k.rest)) = subst (λ x. IsProperBody x) k.is is.proper.body in
    let parts = proper_split f.part k.rest (proper_there k.around (before f.part k.rest) was) in
    let left : IsProperBody (plug l.around l.rest) =
    subst (λ x. IsProperBody x) (sym e ∙ l.is) (proper_plug k.around k.rest (before f.part k.rest) was parts.1) in
    program_end _ q _ i b.1 (same_proper p is _ (subst (λ x. IsProperBody x) (sym (l.change (before f.part)))
    (proper_plug l.around (before f.part l.rest) l.rest left (proper_before f.part l.rest parts.0 (proper_there l.around l.rest left)))))
left_program p is (Set t c) said author low q i h =
    let f : FoundIs (find_stmt t p.body) (place_of t p.body) _ q i = found_is t _ _ _ q i h in
    let k : Known t p.body f.part f.place = known t p.body f.part f.place (once p is) f.part_is f.place_is in
    let a : (not (same_kind c (content_of f.part)) ≡ false) × _ = refuse_is _ (not (same_kind c (content_of f.part))) _ q i f.then in
    let was : IsProperBody (plug k.around (before f.part k.rest)) = subst (λ x. IsProperBody x) k.is is.proper.body in
    program_end _ q _ i a.1 (same_proper p is _ (subst (λ x. IsProperBody x) (sym (known_at t p.body f.part f.place k (saying c)))
    (proper_plug k.around (saying c f.part k.rest) (before f.part k.rest) was (proper_saying c f.part k.rest said (not_is _ a.0) (proper_there k.around (before f.part k.rest) was)))))
left_program p is (Wrap t c) said author low q i h =
    let f : FoundIs (find_stmt t p.body) (place_of t p.body) _ q i = found_is t _ _ _ q i h in
    let k : Known t p.body f.part f.place = known t p.body f.part f.place (once p is) f.part_is f.place_is in
    let a : (is_action c ≡ false) × _ = refuse_is _ (is_action c) _ q i f.then in
    let b : (is_spent author p.issued ≡ false) × _ = refuse_is SerialsSpent (is_spent author p.issued) _ q i a.1 in
    let new : Tag = next_tag author p.issued in
    let was : IsProperBody (plug k.around (before f.part k.rest)) = subst (λ x. IsProperBody x) k.is is.proper.body in
    let parts = proper_split f.part k.rest (proper_there k.around (before f.part k.rest) was) in
    program_end _ q _ i b.1 (new_proper p is author _ low b.0 (subst (λ x. IsProperBody x) (sym (known_at t p.body f.part f.place k (wrapped new c)))
    (proper_plug k.around (wrapped new c f.part k.rest) (before f.part k.rest) was
    (proper_made new c (before f.part done) done k.rest (low, low_next author p.issued b.0) said parts.0 tt parts.1))))
left_program p is (Unwrap t) said author low q i h =
    let f : FoundIs (find_stmt t p.body) (place_of t p.body) _ q i = found_is t _ _ _ q i h in
    let k : Known t p.body f.part f.place = known t p.body f.part f.place (once p is) f.part_is f.place_is in
    let a : (is_action (content_of f.part) ≡ false) × _ = refuse_is _ (is_action (content_of f.part)) _ q i f.then in
    let was : IsProperBody (plug k.around (before f.part k.rest)) = subst (λ x. IsProperBody x) k.is is.proper.body in
    program_end _ q _ i a.1 (same_proper p is _ (subst (λ x. IsProperBody x) (sym (known_at t p.body f.part f.place k unwrapped))
    (proper_plug k.around (unwrapped f.part k.rest) (before f.part k.rest) was (proper_unwrapped f.part k.rest (proper_there k.around (before f.part k.rest) was)))))
left_program p is (Finals names) said author low q i h =
    program_end _ q _ i h (record { ascending = is.proper.ascending; numbers = is.proper.numbers; body = is.proper.body; finals = said })

-- whether it is carried out or not
pub carried_program : (p : Tree) → IsProgram p → (c : Command) → IsProperCommand c → (author : ℕ) → author < TAG_NUMBERS → (q : Tree) (r : Result Inverse EditError)
    → Makes (edited p c author) q r → OnErr r (q ≡ p) → IsProgram q
carried_program p is c said author low q (Ok i) h same = left_program p is c said author low q i h
carried_program p is c said author low q (Err why) h same = subst (λ x. IsProgram x) (sym same) is

pub same_tree : (r : Result Inverse EditError) (i j : Issued) (b d : Body) (f g : List (List ℕ)) → OnErr r (i ≡ j) → OnErr r (b ≡ d) → OnErr r (f ≡ g)
    → OnErr r (tree_of i b f ≡ tree_of j d g)
same_tree (Ok x) i j b d f g k l m = tt
same_tree (Err why) i j b d f g k l m = λ n. tree_of (k n) (l n) (m n)

-- and what the editor says of it
pub undoes_made : (p : Tree) → IsProgram p → (c : Command) (author : ℕ) (q : Tree) (r : Result Inverse EditError) → Makes (edited p c author) q r → IfOk r (λ i. Undoes p i q)
undoes_made p is c author q (Ok i) h = record { is = is; command = c; author = author; left = q; edited = h; body = refl; finals = refl }
undoes_made p is c author q (Err why) h = tt

pub issued_made : (p : Tree) → IsProgram p → (c : Command) (author : ℕ) (q : Tree) (r : Result Inverse EditError) → Makes (edited p c author) q r → IfOk r (λ i. IsPutBackIssued i q)
issued_made p is c author q (Ok i) h = ready p is c author q i h
issued_made p is c author q (Err why) h = tt

-- the program of no parts
pub nothing_is : IsProgram (record { issued = []; body = done; finals = [] })
unfolding shape
nothing_is = record { proper = record { ascending = tt; numbers = All-nil IsProperPair; body = tt; finals = All-nil IsVariable }; shape = refl }
