-- The parts that a command doesn't name keep tag and content, and their order.
use Rattle.std.proofs.Common.{◌≡◌, ℕ, ◌+◌, ◌≤◌, Bool, true, false, not, ◌||◌, ◌⊎◌, inl, inr, Option, Some, None, List, [], ◌∷◌, ◌++◌, map, refl, ap, sym, ◌∙◌, subst, arith}
use Rattle.std.specs.List.{list_any, filter}
use Rattle.std.proofs.lemmas.List.{append-nil}
use Rattle.std.proofs.lemmas.List.Elements.{filter-append}
use Rattle.hpr_terms.specs.declared.tag.Tag.{Tag}
use Rattle.hpr_terms.proofs.Facts.{or_right, not_is}
use Rattle.hpr_syntax.specs.declared.tree.Stmt.{Stmt}
use Rattle.hpr_syntax.specs.declared.tree.Stmt.TheVariants as stmt
use Rattle.hpr_syntax.specs.declared.rows.Row.{Row}
use Rattle.hpr_syntax.specs.declared.rows.Content.{Content}
use Rattle.hpr_syntax.specs.declared.rows.Content.TheVariants.{Assign, If, While, Write, Store}
use Rattle.hpr_syntax.specs.Rows.{content_by, Parent, rows_of, content_of, made}
use Rattle.hpr_syntax.specs.Body.{Body, done, action, branch, loop}
use Rattle.hpr_syntax.specs.BodyOf.{before}
use Rattle.hpr_syntax.specs.Parts.{same_tag, tag_of, find_stmt, tags_of}
use Rattle.hpr_syntax.specs.Tree.{Tree}
use Rattle.hpr_syntax.specs.Shape.{IsProgram}
use Rattle.hpr_syntax.proofs.TagLemmas.{same_tag_itself, same_tag_is}
use Rattle.hpr_edit.specs.declared.command.Command.{Command}
use Rattle.hpr_edit.specs.declared.command.Command.TheVariants.{Insert, Delete, Move, Set, Wrap, Unwrap, Finals}
use Rattle.hpr_edit.specs.declared.command.Inverse.{Inverse}
use Rattle.hpr_edit.specs.declared.command.EditError.TheVariants.{SerialsSpent}
use Rattle.hpr_edit.specs.InPlace.{one_if, times}
use Rattle.hpr_edit.specs.Places.{joined, is_place, place_of}
use Rattle.hpr_edit.specs.Changes.{at_part, at_place, gone, saying, wrapped, unwrapped}
use Rattle.hpr_edit.specs.Edited.{becomes, edited, settled, next_tag, is_spent, same_kind, is_action, stands_in}
use Rattle.hpr_edit.specs.Rows.{told, is_other, others, tags_in, touched}
use Rattle.hpr_edit.proofs.Around.{Around, here, past, first, second, inside, plug, times_plug, times_before}
use Rattle.hpr_edit.proofs.Placed.{PlacedIn, placed_in}
use Rattle.hpr_edit.proofs.Tags.{count, counted, once}
use Rattle.hpr_edit.proofs.Undone.{refuse_is, found_is, FoundIs, settled_is, Known, known, known_at}

-- tag and content of each part in preorder, and then these
abbrev listed : Body → List (Tag × Content) → List (Tag × Content)
listed done after = after
listed (action t d rest) after = (t, content_by d) ∷ listed rest after
listed (branch t e a b rest) after = (t, If e) ∷ listed a (listed b (listed rest after))
listed (loop t e b rest) after = (t, While e) ∷ listed b (listed rest after)

abbrev says : Row → Tag × Content
says row = (row.tag, row.content)

says_both : (x y : List Row) (after : List (Tag × Content)) → map says (x ++ y) ++ after ≡ map says x ++ (map says y ++ after)
says_both [] y after = refl
says_both (r ∷ x) y after = ap (λ l. says r ∷ l) (says_both x y after)

says_then : (p : Parent) (i : ℕ) (b : Body) (after : List (Tag × Content)) → map says (rows_of p i b) ++ after ≡ listed b after
says_then p i done after = refl
says_then p i (action t d rest) after = ap (λ l. (t, content_by d) ∷ l) (says_then p (i + 1) rest after)
says_then p i (branch t e a b rest) after =
    let l = rows_of (Some (t, true)) 0 a in
    let m = rows_of (Some (t, false)) 0 b in
    let r = rows_of p (i + 1) rest in
    ap (λ z. (t, If e) ∷ z)
    (says_both (l ++ m) r after ∙ says_both l m (map says r ++ after)
    ∙ ap (λ z. map says l ++ (map says m ++ z)) (says_then p (i + 1) rest after)
    ∙ ap (λ z. map says l ++ z) (says_then (Some (t, false)) 0 b (listed rest after))
    ∙ says_then (Some (t, true)) 0 a (listed b (listed rest after)))
says_then p i (loop t e b rest) after =
    let l = rows_of (Some (t, true)) 0 b in
    let r = rows_of p (i + 1) rest in
    ap (λ z. (t, While e) ∷ z)
    (says_both l r after ∙ ap (λ z. map says l ++ z) (says_then p (i + 1) rest after) ∙ says_then (Some (t, true)) 0 b (listed rest after))

told_listed : (b : Body) → told b ≡ listed b []
told_listed b = sym (append-nil (told b)) ∙ says_then None 0 b []

-- what is told of a body with a hole: so much ahead of what stands there, and so much behind
listed_append : (b : Body) (p q : List (Tag × Content)) → listed b (p ++ q) ≡ listed b p ++ q
listed_append done p q = refl
listed_append (action t d rest) p q = ap (λ r. (t, content_by d) ∷ r) (listed_append rest p q)
listed_append (branch t e a b rest) p q =
    ap (λ r. (t, If e) ∷ r) (ap (λ r. listed a (listed b r)) (listed_append rest p q) ∙ ap (listed a) (listed_append b (listed rest p) q) ∙ listed_append a (listed b (listed rest p)) q)
listed_append (loop t e b rest) p q =
    ap (λ r. (t, While e) ∷ r) (ap (listed b) (listed_append rest p q) ∙ listed_append b (listed rest p) q)

listed_rest : (s : Stmt) (x : Body) (after : List (Tag × Content)) → listed (before s x) after ≡ listed (before s done) (listed x after)
listed_rest (stmt.If t e a b) x after = refl
listed_rest s x after = refl

record Split (c : Around) (after : List (Tag × Content)) : Type 0 where
  ahead : List (Tag × Content)
  behind : List (Tag × Content)
  is : (x : Body) → listed (plug c x) after ≡ ahead ++ listed x behind

split : (c : Around) (after : List (Tag × Content)) → Split c after
split here after = record { ahead = []; behind = after; is = λ x. refl }
split (past s c) after =
    let k : Split c after = split c after in
    record {
      ahead = listed (before s done) k.ahead;
      behind = k.behind;
      is = λ x. listed_rest s (plug c x) after ∙ ap (listed (before s done)) (k.is x) ∙ listed_append (before s done) k.ahead (listed x k.behind);
    }
split (first t e c b rest) after =
    let k : Split c (listed b (listed rest after)) = split c (listed b (listed rest after)) in
    record { ahead = (t, If e) ∷ k.ahead; behind = k.behind; is = λ x. ap (λ r. (t, If e) ∷ r) (k.is x) }
split (second t e a c rest) after =
    let k : Split c (listed rest after) = split c (listed rest after) in
    record {
      ahead = (t, If e) ∷ listed a k.ahead;
      behind = k.behind;
      is = λ x. ap (λ r. (t, If e) ∷ r) (ap (listed a) (k.is x) ∙ listed_append a k.ahead (listed x k.behind));
    }
split (inside t e c rest) after =
    let k : Split c (listed rest after) = split c (listed rest after) in
    record { ahead = (t, While e) ∷ k.ahead; behind = k.behind; is = λ x. ap (λ r. (t, While e) ∷ r) (k.is x) }

-- two blocks that differ in these tags alone
abbrev Same : List Tag → Body → Body → Type 0
Same ts x y = (after : List (Tag × Content)) → filter (is_other ts) (listed x after) ≡ filter (is_other ts) (listed y after)

told_plug : (ts : List Tag) (c : Around) (x : Body) (k : Split c []) → others ts (plug c x) ≡ filter (is_other ts) k.ahead ++ filter (is_other ts) (listed x k.behind)
told_plug ts c x k = ap (filter (is_other ts)) (told_listed (plug c x) ∙ k.is x) ∙ filter-append (is_other ts) k.ahead (listed x k.behind)

same_others : (ts : List Tag) (c : Around) (x y : Body) → Same ts x y → others ts (plug c x) ≡ others ts (plug c y)
same_others ts c x y h =
    let k : Split c [] = split c [] in
    told_plug ts c x k ∙ ap (λ z. filter (is_other ts) k.ahead ++ z) (h k.behind) ∙ sym (told_plug ts c y k)

-- a row with one of the tags isn't told
not_told : (ts : List Tag) (t : Tag) (c : Content) (rows : List (Tag × Content)) → list_any (same_tag t) ts ≡ true → filter (is_other ts) ((t, c) ∷ rows) ≡ filter (is_other ts) rows
not_told ts t c rows h = rw h refl

alone : (t : Tag) (c : Content) (rows : List (Tag × Content)) → filter (is_other (t ∷ [])) ((t, c) ∷ rows) ≡ filter (is_other (t ∷ [])) rows
alone t c rows = not_told (t ∷ []) t c rows (rw (same_tag_itself t) refl)

none_told : (ts : List Tag) (b : Body) → ((u : Tag) → 1 ≤ times u b → list_any (same_tag u) ts ≡ true) → (after : List (Tag × Content)) → filter (is_other ts) (listed b after) ≡ filter (is_other ts) after
none_told ts done h after = refl
none_told ts (action t d rest) h after =
    not_told ts t (content_by d) (listed rest after) (h t (rw (same_tag_itself t) (omega arith))) ∙ none_told ts rest (λ u k. h u (omega (arith, k))) after
none_told ts (branch t e a b rest) h after =
    not_told ts t (If e) (listed a (listed b (listed rest after))) (h t (rw (same_tag_itself t) (omega arith)))
    ∙ none_told ts a (λ u k. h u (omega (arith, k))) (listed b (listed rest after))
    ∙ none_told ts b (λ u k. h u (omega (arith, k))) (listed rest after)
    ∙ none_told ts rest (λ u k. h u (omega (arith, k))) after
none_told ts (loop t e b rest) h after =
    not_told ts t (While e) (listed b (listed rest after)) (h t (rw (same_tag_itself t) (omega arith)))
    ∙ none_told ts b (λ u k. h u (omega (arith, k))) (listed rest after)
    ∙ none_told ts rest (λ u k. h u (omega (arith, k))) after

among_if : (b : Bool) (u t : Tag) (us : List Tag) → b ≡ same_tag u t → (list_any (same_tag t) us ≡ true) ⊎ (b ≡ true) → (same_tag t u || list_any (same_tag t) us) ≡ true
among_if b u t us e (inr h) =
    let is : u ≡ t = same_tag_is u t (sym e ∙ h) in
    subst (λ y. (same_tag t y || list_any (same_tag t) us) ≡ true) (sym is) (rw (same_tag_itself t) refl)
among_if b u t us e (inl h) = or_right (same_tag t u) _ h

one_or : (b : Bool) (n : ℕ) → 1 ≤ one_if b + n → (b ≡ true) ⊎ (1 ≤ n)
one_or true n h = inl refl
one_or false n h = inr (omega (arith, h))

among : (t : Tag) (ts : List Tag) → 1 ≤ count t ts → list_any (same_tag t) ts ≡ true
among t [] h = absurd (omega (arith, h))
among t (u ∷ us) h = elim (one_or (same_tag u t) (count t us) h) [
  | inl e ↦ among_if (same_tag u t) u t us refl (inr e)
  | inr k ↦ among_if (same_tag u t) u t us refl (inl (among t us k))
]

-- each change
same_gone : (s : Stmt) (rest : Body) → Same (tags_of (before s done) []) rest (before s rest)
same_gone s rest after =
    sym (ap (filter (is_other (tags_of (before s done) []))) (listed_rest s rest after)
    ∙ none_told (tags_of (before s done) []) (before s done) (λ u k. among u (tags_of (before s done) []) (omega (arith, k, counted u (before s done) []))) (listed rest after))

same_new : (t : Tag) (c : Content) (rest : Body) → Same (t ∷ []) (before (made t c done done) rest) rest
same_new t (If e) rest after = alone t (If e) (listed rest after)
same_new t c rest after = alone t c (listed rest after)

same_said : (c : Content) (s : Stmt) (rest : Body) → same_kind c (content_of s) ≡ true → Same (tag_of s ∷ []) (saying c s rest) (before s rest)
same_said (If e) (stmt.If t f a b) rest h after = alone t (If e) (listed a (listed b (listed rest after))) ∙ sym (alone t (If f) (listed a (listed b (listed rest after))))
same_said (While e) (stmt.While t f b) rest h after = alone t (While e) (listed b (listed rest after)) ∙ sym (alone t (While f) (listed b (listed rest after)))
same_said (Assign x e) (stmt.Assign t y f) rest h after = alone t (Assign x e) (listed rest after) ∙ sym (alone t (Assign y f) (listed rest after))
same_said (Write x e) (stmt.Write t y f) rest h after = alone t (Write x e) (listed rest after) ∙ sym (alone t (Write y f) (listed rest after))
same_said (Store x i e) (stmt.Store t y j f) rest h after = alone t (Store x i e) (listed rest after) ∙ sym (alone t (Store y j f) (listed rest after))
same_said c s rest h after = absurd cc

same_wrapped : (t : Tag) (c : Content) (s : Stmt) (rest : Body) → is_action c ≡ false → Same (t ∷ []) (wrapped t c s rest) (before s rest)
same_wrapped t (If e) s rest h after =
    alone t (If e) (listed (before s done) (listed rest after)) ∙ ap (filter (is_other (t ∷ []))) (sym (listed_rest s rest after))
same_wrapped t (While e) s rest h after =
    alone t (While e) (listed (before s done) (listed rest after)) ∙ ap (filter (is_other (t ∷ []))) (sym (listed_rest s rest after))
same_wrapped t c s rest h after = absurd cc

listed_joined : (a x : Body) (after : List (Tag × Content)) → listed (joined a x) after ≡ listed a (listed x after)
listed_joined done x after = refl
listed_joined (action t d rest) x after = ap (λ r. (t, content_by d) ∷ r) (listed_joined rest x after)
listed_joined (branch t e a b rest) x after = ap (λ r. (t, If e) ∷ listed a (listed b r)) (listed_joined rest x after)
listed_joined (loop t e b rest) x after = ap (λ r. (t, While e) ∷ listed b r) (listed_joined rest x after)

same_unwrapped : (s : Stmt) (rest : Body) → is_action (content_of s) ≡ false → Same (tag_of s ∷ []) (unwrapped s rest) (before s rest)
same_unwrapped (stmt.If t e a b) rest h after =
    ap (filter (is_other (t ∷ []))) (listed_joined a (joined b rest) after ∙ ap (listed a) (listed_joined b rest after))
    ∙ sym (alone t (If e) (listed a (listed b (listed rest after))))
same_unwrapped (stmt.While t e b) rest h after =
    ap (filter (is_other (t ∷ []))) (listed_joined b rest after) ∙ sym (alone t (While e) (listed b (listed rest after)))
same_unwrapped s rest h after = absurd cc

-- a change at a part
at_others : (ts : List Tag) (t : Tag) (body : Body) (s : Stmt) (old : _) (f : Stmt → Body → Body) (k : Known t body s old) → Same ts (f s k.rest) (before s k.rest) → others ts (at_part t f body) ≡ others ts body
at_others ts t body s old f k h =
    ap (others ts) (known_at t body s old k f) ∙ same_others ts k.around (f s k.rest) (before s k.rest) h ∙ ap (others ts) (sym k.is)

-- a change at a place
place_others : (ts : List Tag) (place : _) (body : Body) (g : Body → Body) (k : PlacedIn place body) → Same ts (g k.rest) k.rest → others ts (at_place place g body) ≡ others ts body
place_others ts place body g k h =
    ap (others ts) (k.change g) ∙ same_others ts k.around (g k.rest) k.rest h ∙ ap (others ts) (sym k.is)

end_others : (ts : List Tag) (t q : Tree) (inv i : Inverse) (body : Body) → settled t inv ≡ becomes q i → others ts t.body ≡ others ts body → others ts q.body ≡ others ts body
end_others ts t q inv i body h e = ap (λ (x : Tree). others ts x.body) (sym (settled_is t q inv i h).0) ∙ e

found_tags : (o : Option Stmt) (s : Stmt) → o ≡ Some s → tags_in o ≡ tags_of (before s done) []
found_tags o s e = ap tags_in e

pub others_stay : (p : Tree) → IsProgram p → (c : Command) (author : ℕ) (q : Tree) (i : Inverse) → edited p c author ≡ becomes q i → others (touched p c author) q.body ≡ others (touched p c author) p.body
others_stay p is (Insert place c) author q i h =
    let a : (not (is_place place p.body) ≡ false) × _ = refuse_is _ (not (is_place place p.body)) _ q i h in
    let b = refuse_is SerialsSpent (is_spent author p.issued) _ q i a.1 in
    let t = next_tag author p.issued in
    let k : PlacedIn place p.body = placed_in place p.body (once p is) (not_is _ a.0) in
    end_others (t ∷ []) _ q _ i p.body b.1 (place_others (t ∷ []) place p.body (before (made t c done done)) k (same_new t c k.rest))
others_stay p is (Delete t) author q i h =
    let f : FoundIs (find_stmt t p.body) (place_of t p.body) _ q i = found_is t _ _ _ q i h in
    let k : Known t p.body f.part f.place = known t p.body f.part f.place (once p is) f.part_is f.place_is in
    rw (found_tags _ _ f.part_is)
    (end_others (tags_of (before f.part done) []) _ q _ i p.body f.then (at_others (tags_of (before f.part done) []) t p.body f.part f.place gone k (same_gone f.part k.rest)))
others_stay p is (Move t place) author q i h =
    let f : FoundIs (find_stmt t p.body) (place_of t p.body) _ q i = found_is t _ _ _ q i h in
    let k : Known t p.body f.part f.place = known t p.body f.part f.place (once p is) f.part_is f.place_is in
    let a = refuse_is _ (stands_in place.parent f.part) _ q i f.then in
    let b : (not (is_place place (at_part t gone p.body)) ≡ false) × _ = refuse_is _ (not (is_place place (at_part t gone p.body))) _ q i a.1 in
    let e : at_part t gone p.body ≡ plug k.around k.rest = known_at t p.body f.part f.place k gone in
    let le : (u : Tag) → times u (at_part t gone p.body) ≤ 1 =
    λ u. omega (arith, ap (times u) e, k.once u, times_plug u k.around k.rest, times_plug u k.around (before f.part k.rest), times_before u f.part k.rest) in
    let l : PlacedIn place (at_part t gone p.body) = placed_in place (at_part t gone p.body) le (not_is _ b.0) in
    let ts = tags_of (before f.part done) [] in
    rw (found_tags _ _ f.part_is)
    (end_others ts _ q _ i p.body b.1
    (place_others ts place (at_part t gone p.body) (before f.part) l (λ after. sym (same_gone f.part l.rest after))
    ∙ at_others ts t p.body f.part f.place gone k (same_gone f.part k.rest)))
others_stay p is (Set t c) author q i h =
    let f : FoundIs (find_stmt t p.body) (place_of t p.body) _ q i = found_is t _ _ _ q i h in
    let k : Known t p.body f.part f.place = known t p.body f.part f.place (once p is) f.part_is f.place_is in
    let a : (not (same_kind c (content_of f.part)) ≡ false) × _ = refuse_is _ (not (same_kind c (content_of f.part))) _ q i f.then in
    let e : tag_of f.part ≡ t = same_tag_is (tag_of f.part) t k.tag in
    end_others (t ∷ []) _ q _ i p.body a.1
    (at_others (t ∷ []) t p.body f.part f.place (saying c) k
    (subst (λ u. Same (u ∷ []) (saying c f.part k.rest) (before f.part k.rest)) e (same_said c f.part k.rest (not_is _ a.0))))
others_stay p is (Wrap t c) author q i h =
    let f : FoundIs (find_stmt t p.body) (place_of t p.body) _ q i = found_is t _ _ _ q i h in
    let k : Known t p.body f.part f.place = known t p.body f.part f.place (once p is) f.part_is f.place_is in
    let a : (is_action c ≡ false) × _ = refuse_is _ (is_action c) _ q i f.then in
    let b = refuse_is SerialsSpent (is_spent author p.issued) _ q i a.1 in
    let new = next_tag author p.issued in
    end_others (new ∷ []) _ q _ i p.body b.1
    (at_others (new ∷ []) t p.body f.part f.place (wrapped new c) k (same_wrapped new c f.part k.rest a.0))
others_stay p is (Unwrap t) author q i h =
    let f : FoundIs (find_stmt t p.body) (place_of t p.body) _ q i = found_is t _ _ _ q i h in
    let k : Known t p.body f.part f.place = known t p.body f.part f.place (once p is) f.part_is f.place_is in
    let a : (is_action (content_of f.part) ≡ false) × _ = refuse_is _ (is_action (content_of f.part)) _ q i f.then in
    let e : tag_of f.part ≡ t = same_tag_is (tag_of f.part) t k.tag in
    end_others (t ∷ []) _ q _ i p.body a.1
    (at_others (t ∷ []) t p.body f.part f.place unwrapped k
    (subst (λ u. Same (u ∷ []) (unwrapped f.part k.rest) (before f.part k.rest)) e (same_unwrapped f.part k.rest a.0)))
others_stay p is (Finals names) author q i h = end_others [] _ q _ i p.body h refl
