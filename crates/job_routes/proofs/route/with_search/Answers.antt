use Rattle.std.proofs.Common.{◌≡◌, ◌<◌, ◌∷◌, ◌++◌, take, drop, length, sym, subst, ap, ◌∙◌, rules}
use Rattle.job_routes.specs.declared.leg.Leg.{Leg}
use Rattle.job_routes.specs.declared.route.PlaceSide.{PlaceSide}
use Rattle.job_routes.proofs.FoundLegs.{Stands, before_first, before_last, stands_there}
use Rattle.job_routes.proofs.route.with_search.Goals as goal
use Rattle.job_routes.proofs.route.with_search.Goals.{in-Some+in_ok-found-in-Some, in-None+in_ok-found-in-None}

pub returns-in_ok-insert-in-Some-found : goal.returns-in_ok-insert-in-Some-found
returns-in_ok-insert-in-Some-found c = λ env ss.
    let legs = c.args.scans.items in
    let last = c.args.last in
    let made = c.insert.new.self.items in
    let f : Leg × PlaceSide = (c.in-Some-found.search, c.in-Some-found.side) in
    let put = c.in_ok-insert-in-Some-found.ensures.items in
    elim c.match-first_mut.branch [
      | in-Some+in_ok-found-in-Some w ↦
          let old = w.in-Some.first.now in
          let new = w.search_for.new.leg in
          let some_there : 0 < length legs = search rules in
          before_first legs made last c.match-first_mut.last old new f some_there w.in-Some.ensures.value
          (put ∙ ap (λ v. take 0 v.items ++ f.0 ∷ drop 0 v.items) w.scans-is) w.last-is
          (stands_there c.match-first_mut.found w.in_ok-found-in-Some.found old new f w.found-is c.in-Some-found.is
          w.in_ok-found-in-Some.ensures.some) env ss
      | in-None+in_ok-found-in-None w ↦
          let new = w.search_for-in-None.new.leg in
          let none : length legs ≡ 0 = search rules in
          before_last legs made last c.match-first_mut.last f none
          (put ∙ ap (λ v. take 0 v.items ++ f.0 ∷ drop 0 v.items) w.scans-is)
          (subst (λ (l : Leg). Stands last l f) (sym w.last-is)
          (stands_there c.match-first_mut.found w.in_ok-found-in-None.found last new f w.found-is c.in-Some-found.is
          w.in_ok-found-in-None.ensures.some)) env ss
    ]
