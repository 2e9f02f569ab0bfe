use Rattle.std.proofs.Common.{◌≡◌, ℕ, ◌+◌, ◌<◌, length, Vec, Global, ap, sym, subst, arith}
use Rattle.std.proofs.lemmas.List.{length-map}
use Rattle.hpr_graph.specs.declared.link.Link.{Link}
use Rattle.hpr_graph.specs.Numbered.{Numbered, IsLink, IsCounted, rows_of}
use Rattle.hpr_graph.proofs.Numbers.{numbered, counted_link, link_within}
use Rattle.hpr_graph.proofs.Rows.{InRow, with_link-there, with_link-kept, with_link-only, with_link-count}
use Rattle.hpr_graph.proofs.draft.Draft.push_new_link.Goals as goal

within : (g h : Numbered) (to : ℕ) (link : Link) → g ≡ h → length g.links ≡ length g.vertices → IsLink h to link → to < length g.links
within g h to link is rows stands = omega (arith, link_within h to link stands, ap (λ (s : Numbered). length s.vertices) is, rows)

pub push_at-requires : goal.push_at-requires
push_at-requires c =
    let l = within _ c.args.self.now c.args.to c.args.link c.self.view_is c.self.invariant.numbered.rows c.requires.link in
    omega (arith, l, length-map c.self.inside.links.items (λ (r : Vec Link Global). r.items))

pub invariant_of-self-2 : goal.invariant_of-self-2
invariant_of-self-2 c =
    let one_more : c.self.inside.edges + 1 ≡ c.in-Some.edges = sym c.in-Some.ensures.1 in
    subst (λ (n : ℕ). IsCounted (numbered c.self.inside.vertices.keys (rows_of c.push_at.new.links.items)) n) one_more
    (counted_link c.self.inside.vertices.keys (rows_of c.self.inside.links.items) _ _ c.args.to c.args.link c.self.invariant
    (subst (λ (g : Numbered). IsLink g c.args.to c.args.link) (sym c.self.view_is) c.requires.link)
    (λ h. c.requires.fresh (subst (λ (g : Numbered). InRow g.links c.args.to c.args.link) c.self.view_is h)) c.in_ok-push_at.ensures.ok)

pub returns-clause-there : goal.returns-clause-there
returns-clause-there c =
    rw c.in_ok-push_at.ensures.ok
    (with_link-there (rows_of c.self.inside.links.items) c.args.to c.args.link (within _ _ _ c.args.link c.self.view_is c.self.invariant.numbered.rows c.requires.link))

pub returns-clause-kept : goal.returns-clause-kept
returns-clause-kept c =
    rw (c.in_ok-push_at.ensures.ok, ← c.self.view_is)
    (with_link-kept (rows_of c.self.inside.links.items) c.args.to c.args.link (within _ _ _ c.args.link c.self.view_is c.self.invariant.numbered.rows c.requires.link))

pub returns-clause-only : goal.returns-clause-only
returns-clause-only c =
    rw (c.in_ok-push_at.ensures.ok, ← c.self.view_is)
    (with_link-only (rows_of c.self.inside.links.items) c.args.to c.args.link (within _ _ _ c.args.link c.self.view_is c.self.invariant.numbered.rows c.requires.link))

pub returns-clause-count : goal.returns-clause-count
returns-clause-count c =
    rw (c.in_ok-push_at.ensures.ok, ← c.self.view_is)
    (with_link-count (rows_of c.self.inside.links.items) c.args.to c.args.link (within _ _ _ c.args.link c.self.view_is c.self.invariant.numbered.rows c.requires.link))
