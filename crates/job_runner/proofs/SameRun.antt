-- One run by other names for its sizes.
use Rattle.std.proofs.Common.{◌≡◌, ℕ, arith}
use Rattle.job_runner.specs.Cuts.{IsPiece}

pub as_planned : {jobs jobs' : ℕ} {last last' : ℕ → ℕ} {size size' : ℕ → ℕ → ℕ} {job leg from to : ℕ}
    → (jobs ≡ jobs') × ((j : ℕ) → last j ≡ last' j) × ((j k : ℕ) → size j k ≡ size' j k)
    → IsPiece jobs last size job leg from to → IsPiece jobs' last' size' job leg from to
as_planned {job = job} {leg = leg} same p = record {
  known = (let e = same.0 in let h = p.known in omega arith);
  chained = (let e = same.1 job in let h = p.chained in omega arith);
  ordered = p.ordered;
  within = (let e = same.2 job leg in let h = p.within in omega arith);
}
