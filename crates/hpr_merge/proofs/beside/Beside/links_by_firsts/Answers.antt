use Rattle.std.proofs.Common.{◌≡◌, ◌<◌, ℕ, Option, Some, List, slice_get, All, length, get_or, sym, subst}
use Rattle.std.proofs.lemmas.List.Elements.{All-contains, Contains-get_or}
use Rattle.hpr_graph.specs.declared.link.Link.{Link}
use Rattle.hpr_merge.specs.Beside.{AreLeastLinks}
use Rattle.hpr_merge.specs.Known.{IsLinkOf}
use Rattle.hpr_merge.proofs.KnownNumbers.{links_known}
use Rattle.hpr_merge.proofs.beside.Beside.links_by_firsts.Goals as goal

pub links_by_words-requires : goal.links_by_words-requires
links_by_words-requires c =
    let p = c.args.self.now in
    let unknown = c.in_ok-unknown.unknown.items in
    subst (All (λ n. n < length p.merged.vertices)) (sym c.deref.ensures.value)
    (λ i d l. All-contains (λ n. n < length p.merged.vertices) c.args.numbers.now (get_or unknown i d) c.requires.within
    (c.in_ok-unknown.ensures.only (get_or unknown i d) (Contains-get_or unknown i d l)).0)

pub returns : goal.returns
returns c =
    let p = c.args.self.now in
    let ns = c.args.numbers.now in
    let os = c.args.firsts.now in
    let unknown = c.in_ok-unknown.unknown.items in
    let some = c.in_ok-some.some.items in
    let links = c.in_ok-links.links.items in
    let found = subst (λ (xs : List ℕ). AreLeastLinks p xs some) c.deref.ensures.value c.in_ok-some.ensures in
    let each_there =
    subst (λ (us : List ℕ). (i n : ℕ) (o : Option (ℕ × Link)) → slice_get ns i ≡ Some n → slice_get links i ≡ Some o
    → IsLinkOf os us c.deref-3.result.now n o) c.deref-2.ensures.value c.in_ok-links.ensures.each in
    let each =
    subst (λ (fs : List (Option (ℕ × Link))). (i n : ℕ) (o : Option (ℕ × Link)) → slice_get ns i ≡ Some n → slice_get links i ≡ Some o
    → IsLinkOf os unknown fs n o) c.deref-3.ensures.value each_there in
    links_known p ns unknown os some links c.requires.within c.requires.firsts c.in_ok-unknown.ensures found c.in_ok-links.ensures.count each
