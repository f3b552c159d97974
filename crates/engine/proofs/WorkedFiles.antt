-- A small job file of each version, read and run by the definitions.
use Rattle.std.proofs.Common.{ℕ, inl, inr, List, [], ◌∷◌, false, drop, length, Some, Ok, refl, arith}
use Rattle.std.specs.Prelude.{Err, codes, pos, negsuc}
use Rattle.std.specs.Fmt.{digits}
use Rattle.std.specs.Int.{int_wrap}
use Rattle.std.proofs.lemmas.Bool.{leb-true}
use Rattle.stream_tokens.specs.declared.symbol.Symbol.TheVariants as symbol
use Rattle.stream_tokens.specs.declared.token.Token.{Token}
use Rattle.stream_tokens.specs.declared.token.TokenKind.{TokenKind}
use Rattle.stream_tokens.specs.declared.token.TokenKind.TheVariants as kind
use Rattle.stream_tokens.specs.JobTexts.{job_texts_within, version_within}
use Rattle.stream_tokens.specs.Tokens.{AreTokensOf}
use Rattle.stream_tokens.proofs.FrontReads.{number_plain}
use Rattle.stream_tokens.proofs.Longest.{longest_name, longest_symbol}
use Rattle.lambda_expr.specs.Words.{named, numeral, sign, words_of}
use Rattle.reduce_ops.specs.declared.op.Op.TheVariants as op
use Rattle.job_language.specs.declared.fault.Cause.TheVariants as cause
use Rattle.job_language.specs.declared.operation.Operation.TheVariants as operation
use Rattle.job_language.specs.Calls.{Call}
use Rattle.job_language.specs.Files.{scope_below}
use Rattle.job_language.specs.Grammar.{IsJob, Job, plain}
use Rattle.job_language.specs.Jobs.{AbstractJob, values, prefix, count}
use Rattle.job_language.specs.Rows as row
use Rattle.job_language.specs.Verdicts.{IsRead, inside}
use Rattle.engine.specs.Outcomes.{HasJobsRefused}
use Rattle.engine.specs.Run.{IsReport}
use Rattle.engine.specs.Worked.{in_version_one, in_version_two, job_text}

abbrev token : TokenKind → ℕ → ℕ → Token
token k a b = record { kind = k; from = a; to = b }

abbrev tokens : List Token
tokens =
    token kind.Name 0 1
    ∷ token (kind.Symbol symbol.Assign) 2 3
    ∷ token kind.Name 4 6
    ∷ token (kind.Symbol symbol.Open) 6 7
    ∷ token kind.Number 7 8
    ∷ token (kind.Symbol symbol.Close) 8 9
    ∷ token (kind.Symbol symbol.Dot) 9 10
    ∷ token kind.Name 10 16
    ∷ token (kind.Symbol symbol.Open) 16 17
    ∷ token kind.Number 17 18
    ∷ token (kind.Symbol symbol.Comma) 18 19
    ∷ token kind.Number 20 21
    ∷ token (kind.Symbol symbol.Comma) 21 22
    ∷ token kind.Name 23 26
    ∷ token (kind.Symbol symbol.Close) 26 27
    ∷ token (kind.Symbol symbol.Dot) 27 28
    ∷ token kind.Name 28 33
    ∷ token (kind.Symbol symbol.Open) 33 34
    ∷ token (kind.Symbol symbol.Close) 34 35
    ∷ token (kind.Symbol symbol.Dot) 35 36
    ∷ token kind.Name 36 43
    ∷ token (kind.Symbol symbol.Open) 43 44
    ∷ token (kind.Symbol symbol.Minus) 44 45
    ∷ token kind.Number 45 46
    ∷ token (kind.Symbol symbol.Close) 46 47
    ∷ []

tokens_cut : AreTokensOf tokens job_text
tokens_cut = (
  omega arith,
  refl,
  omega arith,
  inl (longest_name (drop 0 job_text) refl),
  (
    omega arith,
    refl,
    omega arith,
    inl (longest_symbol 61 (drop 3 job_text) symbol.Assign (refl, refl, refl, refl) refl),
    (
      omega arith,
      refl,
      omega arith,
      inl (longest_name (drop 4 job_text) refl),
      (
        omega arith,
        refl,
        omega arith,
        inl (longest_symbol 40 (drop 7 job_text) symbol.Open (refl, refl, refl, refl) refl),
        (
          omega arith,
          refl,
          omega arith,
          inl (number_plain (drop 7 job_text) 1 refl refl refl (λ less. refl)),
          (
            omega arith,
            refl,
            omega arith,
            inl (longest_symbol 41 (drop 9 job_text) symbol.Close (refl, refl, refl, refl) refl),
            (
              omega arith,
              refl,
              omega arith,
              inl (longest_symbol 46 (drop 10 job_text) symbol.Dot (refl, refl, refl, refl) refl),
              (
                omega arith,
                refl,
                omega arith,
                inl (longest_name (drop 10 job_text) refl),
                (
                  omega arith,
                  refl,
                  omega arith,
                  inl (longest_symbol 40 (drop 17 job_text) symbol.Open (refl, refl, refl, refl) refl),
                  (
                    omega arith,
                    refl,
                    omega arith,
                    inl (number_plain (drop 17 job_text) 1 refl refl refl (λ less. refl)),
                    (
                      omega arith,
                      refl,
                      omega arith,
                      inl (longest_symbol 44 (drop 19 job_text) symbol.Comma (refl, refl, refl, refl) refl),
                      (
                        omega arith,
                        refl,
                        omega arith,
                        inl (number_plain (drop 20 job_text) 1 refl refl refl (λ less. refl)),
                        (
                          omega arith,
                          refl,
                          omega arith,
                          inl (longest_symbol 44 (drop 22 job_text) symbol.Comma (refl, refl, refl, refl) refl),
                          (
                            omega arith,
                            refl,
                            omega arith,
                            inl (longest_name (drop 23 job_text) refl),
                            (
                              omega arith,
                              refl,
                              omega arith,
                              inl (longest_symbol 41 (drop 27 job_text) symbol.Close (refl, refl, refl, refl) refl),
                              (
                                omega arith,
                                refl,
                                omega arith,
                                inl (longest_symbol 46 (drop 28 job_text) symbol.Dot (refl, refl, refl, refl) refl),
                                (
                                  omega arith,
                                  refl,
                                  omega arith,
                                  inl (longest_name (drop 28 job_text) refl),
                                  (
                                    omega arith,
                                    refl,
                                    omega arith,
                                    inl (longest_symbol 40 (drop 34 job_text) symbol.Open (refl, refl, refl, refl)
                                        refl),
                                    (
                                      omega arith,
                                      refl,
                                      omega arith,
                                      inl
                                          (longest_symbol 41 (drop 35 job_text) symbol.Close (refl, refl, refl, refl)
                                          refl),
                                      (
                                        omega arith,
                                        refl,
                                        omega arith,
                                        inl
                                            (longest_symbol 46 (drop 36 job_text) symbol.Dot (refl, refl, refl, refl)
                                            refl),
                                        (
                                          omega arith,
                                          refl,
                                          omega arith,
                                          inl (longest_name (drop 36 job_text) refl),
                                          (
                                            omega arith,
                                            refl,
                                            omega arith,
                                            inl
                                                (longest_symbol 40 (drop 44 job_text) symbol.Open
                                                (refl, refl, refl, refl) refl),
                                            (
                                              omega arith,
                                              refl,
                                              omega arith,
                                              inl
                                                  (longest_symbol 45 (drop 45 job_text) symbol.Minus
                                                  (refl, refl, refl, refl) refl),
                                              (
                                                omega arith,
                                                refl,
                                                omega arith,
                                                inl (number_plain (drop 45 job_text) 1 refl refl refl (λ less. refl)),
                                                (
                                                  omega arith,
                                                  refl,
                                                  omega arith,
                                                  inl
                                                      (longest_symbol 41 (drop 47 job_text) symbol.Close
                                                      (refl, refl, refl, refl) refl),
                                                  (omega arith, refl),
                                                ),
                                              ),
                                            ),
                                          ),
                                        ),
                                      ),
                                    ),
                                  ),
                                ),
                              ),
                            ),
                          ),
                        ),
                      ),
                    ),
                  ),
                ),
              ),
            ),
          ),
        ),
      ),
    ),
  ),
)

-- the calls as they are written
abbrev of_call : Call
of_call = record { operation = operation.Of; parts = (numeral (codes "1") ∷ []) ∷ [] }

abbrev prefix_call : Call
prefix_call = record {
  operation = operation.Prefix;
  parts = (numeral (codes "0") ∷ []) ∷ (numeral (codes "2") ∷ []) ∷ (named (codes "sum") ∷ []) ∷ [];
}

abbrev count_call : Call
count_call = record { operation = operation.Count; parts = [] }

abbrev fallback_call : Call
fallback_call = record { operation = operation.OnFault; parts = (sign symbol.Minus ∷ numeral (codes "1") ∷ []) ∷ [] }

abbrev written_job : Job
written_job = record {
  name = codes "s";
  source = plain false of_call;
  stages = prefix_call ∷ [];
  terminal = count_call;
  fallback = Some fallback_call;
  semicolon = false;
}

is_written : IsJob (words_of job_text tokens) written_job
is_written = record {
  sound = refl;
  spelled = record {
    source = record { role = refl; call = record { pair = (refl, tt); allowed = refl; fit = (refl, tt) } };
    stages = (
      record {
        role = refl;
        call =
            record { pair = (refl, (refl, (refl, tt))); allowed = refl; fit = (refl, (refl, (refl, tt))) };
      },
      tt,
    );
    terminal = record { role = refl; call = record { pair = tt; allowed = refl; fit = tt } };
    fallback = record { role = refl; call = record { pair = (refl, tt); allowed = refl; fit = (refl, tt) } };
    spelled = refl;
  };
}

-- the job that it means
abbrev meant_job : AbstractJob
meant_job = record {
  name = codes "s";
  sources = values (pos 1 ∷ []) ∷ [];
  stages = prefix (Some (0, 2)) op.Sum ∷ [];
  terminal = count;
  on_fault = Some (negsuc 0);
  table = [];
}

read_in_version_two : IsRead (scope_below 2 [] []) job_text (Ok meant_job)
read_in_version_two = inside (record {
  short = leb-true (length job_text) 65536 refl;
  tokens = tokens;
  cut = tokens_cut;
  job = written_job;
  is = is_written;
  read =
      inr (
        row.source (values (pos 1 ∷ [])),
        (Ok (row.source (values (pos 1 ∷ []))), (Ok row.nothing, refl, refl), refl),
        inr (
          row.stage (prefix (Some (0, 2)) op.Sum),
          (Ok (row.stage (prefix (Some (0, 2)) op.Sum)), (Ok (row.operator op.Sum), refl, refl), refl),
          inr (
            row.terminal count,
            (Ok (row.terminal count), (Ok row.nothing, refl, refl), refl),
            inr (row.fallback (negsuc 0), (Ok (row.fallback (negsuc 0)), (Ok row.nothing, refl, refl), refl), refl),
          ),
        ),
      );
})

refused_in_version_one : IsRead (scope_below 1 [] []) job_text (Err cause.Syntax)
refused_in_version_one = inside (record {
  short = leb-true (length job_text) 65536 refl;
  tokens = tokens;
  cut = tokens_cut;
  job = written_job;
  is = is_written;
  read = refl;
})

pub report_in_version_two : IsReport in_version_two (codes "s = -1\n")
unfolding job_texts_within version_within int_wrap digits
report_in_version_two = record {
  columns = [];
  given = refl;
  jobs = meant_job ∷ [];
  spelled = inr (meant_job, inr (omega arith, read_in_version_two), refl);
  written = refl;
}

pub refusal_in_version_one : HasJobsRefused in_version_one (record { line = 1; cause = cause.Syntax })
unfolding job_texts_within version_within
refusal_in_version_one = record {
  columns = [];
  given = refl;
  refused = inl (cause.Syntax, inr (omega arith, refused_in_version_one), refl);
}
