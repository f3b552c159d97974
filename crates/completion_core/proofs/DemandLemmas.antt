-- A legal action meets all demands but those that are limits of the store.
use Rattle.std.proofs.Common.{◌≡◌, ◌≢◌, ℕ, ◌<◌, List, [], ◌∷◌, length, cond, sym, subst, arith, ap, eq-eqb, refl}
use Rattle.completion_core.specs.Legal.{count, only_at}
use Rattle.completion_core.specs.declared.action.Action.{Action}
use Rattle.completion_core.specs.declared.action.Action.TheVariants.{Claim, Arm, Add, Give, Arrive, Run, Settle}
use Rattle.completion_core.specs.declared.action.Illegal.{Illegal}
use Rattle.completion_core.specs.declared.action.Illegal.TheVariants.{NoSuchNode, NotClaimedHere, AlreadyArmed, NotHeld}
use Rattle.completion_core.specs.declared.action.Illegal.TheVariants.{NotFinisher, OnwardNotEarlier, TooMany, NoMemory}
use Rattle.completion_core.specs.Graph.{Graph}
use Rattle.completion_core.specs.Legal.{Legal}
use Rattle.completion_core.specs.Steps.{IsArm}
use Rattle.completion_core.specs.Refusals.{rank, Meets, IsRefusal, LacksLog}

pub legal_meets : (action : Action) (g : Graph) → Legal action g → (demand : Illegal) → rank demand < 7
    → Meets demand action g
legal_meets action g l TooMany lt = absurd (omega arith)
legal_meets action g l NoMemory lt = absurd (omega arith)
legal_meets (Arm a node pending onward) g l NoSuchNode lt = l.0
legal_meets (Arm a node pending onward) g l NotClaimedHere lt = l.1
legal_meets (Arm a node pending onward) g l AlreadyArmed lt = l.2
legal_meets (Arm a node pending onward) g l NotHeld lt = l.3
legal_meets (Arm a node pending onward) g l OnwardNotEarlier lt = l.4
legal_meets (Add a node d) g l NoSuchNode lt = l.0
legal_meets (Add a node d) g l NotHeld lt = l.1
legal_meets (Give a b node k) g l NoSuchNode lt = l.0
legal_meets (Give a b node k) g l NotHeld lt = l.1
legal_meets (Arrive a node) g l NoSuchNode lt = l.0
legal_meets (Arrive a node) g l NotHeld lt = l.1
legal_meets (Run a node) g l NoSuchNode lt = l.0
legal_meets (Run a node) g l NotFinisher lt = (l.1, l.2, l.3)
legal_meets (Settle a) g l NotHeld lt = l
legal_meets action g l demand lt = tt

pub not_legal : (reason : Illegal) (action : Action) (g : Graph) → rank reason < 7 → IsRefusal reason action g
    → Legal action g → ⊥
not_legal reason action g lt refusal l = refusal.1 (legal_meets action g l reason lt)

pub all_but_memory : (action : Action) (g : Graph) → Legal action g → Meets TooMany action g → (demand : Illegal)
    → rank demand < 8 → Meets demand action g
all_but_memory action g l few NoSuchNode lt = legal_meets action g l NoSuchNode (omega arith)
all_but_memory action g l few NotClaimedHere lt = legal_meets action g l NotClaimedHere (omega arith)
all_but_memory action g l few AlreadyArmed lt = legal_meets action g l AlreadyArmed (omega arith)
all_but_memory action g l few NotHeld lt = legal_meets action g l NotHeld (omega arith)
all_but_memory action g l few NotFinisher lt = legal_meets action g l NotFinisher (omega arith)
all_but_memory action g l few OnwardNotEarlier lt = legal_meets action g l OnwardNotEarlier (omega arith)
all_but_memory action g l few TooMany lt = few
all_but_memory action g l few NoMemory lt = absurd (omega arith)

pub wanting : (action : Action) (g : Graph) → Legal action g → Meets TooMany action g → (Meets NoMemory action g → ⊥)
    → IsRefusal NoMemory action g
wanting action g l few none = (all_but_memory action g l few, none)

-- an arming needs memory
pub arm_wants : (action : Action) (g : Graph) → IsArm action → Meets NoMemory action g → ⊥
arm_wants (Arm a node pending onward) g is m = m
arm_wants (Claim a) g is m = is
arm_wants (Add a node d) g is m = is
arm_wants (Give a b node k) g is m = is
arm_wants (Arrive a node) g is m = is
arm_wants (Run a node) g is m = is
arm_wants (Settle a) g is m = is

-- a run that isn't logged
pub run_lacks : (action : Action) (g : Graph) (a node : ℕ) → action ≡ Run a node → Legal action g
    → Meets TooMany action g → LacksLog NoMemory action g
run_lacks action g a node e l few = subst (λ x. LacksLog NoMemory x g) (sym e)
    (subst (λ x. (demand : Illegal) → rank demand < 8 → Meets demand x g) e (all_but_memory action g l few))

pub some_kept : (xs : List ℕ) → 0 < length xs → ((i : ℕ) → count i xs ≡ 0) → ⊥
some_kept [] h none = absurd (omega arith)
some_kept (x ∷ xs) h none = let z = none x in let e : only_at x 1 x ≡ 1 = ap (λ b. cond b 1 0) (eq-eqb x x refl) in
    absurd (omega arith)

pub lacks_last : (reason : Illegal) (action : Action) (g : Graph) → LacksLog reason action g → rank reason < 7 → ⊥
lacks_last NoMemory (Run a node) g l lt = absurd (omega arith)
lacks_last reason action g l lt = l
