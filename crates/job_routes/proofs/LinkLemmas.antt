-- Walks through links.
use Rattle.std.proofs.Common.{◌≡◌, ℕ, zero, suc, Bool, true, false, List, [], ◌∷◌, ◌++◌, ◌<◌, ◌≤◌, length, get_or, refl}
use Rattle.std.proofs.Common.{ap, ◌∙◌, arith}
use Rattle.std.specs.Prelude.{◌||◌}
use Rattle.lambda_values.specs.Earlier.{Numbers}
use Rattle.trace.specs.Trace.{Trace}
use Rattle.job_routes.specs.declared.leg.Leg.{Leg}
use Rattle.job_routes.specs.declared.leg.Link.{Link}
use Rattle.job_routes.specs.Legs.{is_linked, is_in_order, is_one_piece, leg_in, legs_in, link_in, links_in, AbstractLeg}
use Rattle.job_routes.specs.Legs.{AbstractLink, given_walk, leg_among, leg_outcome, link_walk, linked, scanned}

-- without a slice a walk stays as it is
pub unlinked : (ls : List AbstractLink) (env : Numbers) (t : Trace) → is_linked ls ≡ false → linked ls env t ≡ t
unlinked [] env t none = refl
unlinked (l ∷ ls) env t none = absurd (let z : true ≡ false = none in cc)

-- the last of several links
linked_last : (ls : List Link) (l : Link) (env : Numbers) (t : Trace)
    → linked (links_in (ls ++ l ∷ [])) env t ≡ link_walk (link_in l) env (linked (links_in ls) env t)
linked_last [] l env t = refl
linked_last (k ∷ ls) l env t = linked_last ls l env (link_walk (link_in k) env t)

pub last_linked : (new ls : List Link) (l : Link) (env : Numbers) (t : Trace) → new ≡ ls ++ l ∷ []
    → linked (links_in new) env t ≡ link_walk (link_in l) env (linked (links_in ls) env t)
last_linked new ls l env t e = ap (λ (ks : List Link). linked (links_in ks) env t) e ∙ linked_last ls l env t

-- the last of several legs
scanned_last : (ls : List Leg) (l : Leg) (env : Numbers) (t : Trace)
    → scanned (legs_in (ls ++ l ∷ [])) env t ≡ given_walk (leg_outcome (leg_in l) env (scanned (legs_in ls) env t))
scanned_last [] l env t = refl
scanned_last (k ∷ ls) l env t = scanned_last ls l env (given_walk (leg_outcome (leg_in k) env t))

pub last_scanned : (new ls : List Leg) (l : Leg) (env : Numbers) (t : Trace) → new ≡ ls ++ l ∷ []
    → scanned (legs_in new) env t ≡ given_walk (leg_outcome (leg_in l) env (scanned (legs_in ls) env t))
last_scanned new ls l env t e = ap (λ (ks : List Leg). scanned (legs_in ks) env t) e ∙ scanned_last ls l env t

-- legs by their numbers
pub length_legs : (ls : List Leg) → length (legs_in ls) ≡ length ls
length_legs [] = refl
length_legs (l ∷ ls) = ap suc (length_legs ls)

pub leg_found : (k : ℕ) (ls : List Leg) (l : Leg) (last : AbstractLeg) → k < length ls → l ≡ get_or ls k l
    → leg_in l ≡ leg_among k (legs_in ls) last
leg_found k [] l last h e = absurd (omega arith)
leg_found zero (m ∷ ls) l last h e = ap leg_in e
leg_found (suc k) (m ∷ ls) l last h e = leg_found k ls l last (omega arith) e

pub leg_after : (k : ℕ) (ls : List Leg) (last : AbstractLeg) → length ls ≤ k → last ≡ leg_among k (legs_in ls) last
leg_after k [] last h = refl
leg_after zero (m ∷ ls) last h = absurd (omega arith)
leg_after (suc k) (m ∷ ls) last h = leg_after k ls last (omega arith)

-- a leg whose walk may be cut has no slices
pub without_slices : (l : AbstractLeg) → is_one_piece l ≡ false → is_linked l.links ≡ false
without_slices l e = first (is_linked l.links) (is_in_order l.last) e
  where
    first : (a b : Bool) → (a || b) ≡ false → a ≡ false
    first true b h = h
    first false b h = refl
