-- A refusal in the specification's numbers: causes and sides; and what is known of one that is passed on. Assumes nothing.
use Rattle.std.specs.Prelude.{ℕ, ◌≡◌, Result, Ok, Err}
use Rattle.std.specs.Result.{IsErrAnd}
use Rattle.std.proofs.Common.{ap}
use Rattle.std.proofs.Math.Option.{Option, none, some}
use Rattle.model.specs.Answers as Model
use Rattle.calls.specs.Faults.{refusal}
use Rattle.calls.specs.declared.refusal.Cause.{Cause}
use Rattle.calls.specs.declared.refusal.Side.{Side}
use Rattle.calls.specs.declared.refusal.Refusal.{Refusal}

-- the number of a refusal
abbrev pub number_of : Cause → ℕ
number_of Cause.Length = 1
number_of Cause.Version = 2
number_of Cause.Cut = 3
number_of Cause.Code = 4
number_of Cause.Name = 5
number_of Cause.Count = 6
number_of Cause.UndefinedNet = 7
number_of Cause.DuplicatePortName = 8
number_of Cause.DuplicateRegisterName = 9
number_of Cause.InvalidRegisterOutput = 10
number_of Cause.MultipleDrivers = 11
number_of Cause.RegisterNet = 12
number_of Cause.UnconnectedRegister = 13
number_of Cause.UnsupportedAsyncReset = 14
number_of Cause.UnsupportedClock = 15
number_of Cause.ZeroDepth = 16
number_of Cause.DepthLimit = 17
number_of Cause.InputInterface = 18
number_of Cause.OutputInterface = 19
number_of Cause.MultipleClockDomains = 20
number_of Cause.ClockDomain = 21
number_of Cause.UnknownInitialState = 22
number_of Cause.TooLarge = 23
number_of Cause.Memory = 24
number_of Cause.Claim = 25
number_of Cause.ClockRead = 30
number_of Cause.LearnedLimit = 36

-- the number of a side: 0 gold, 1 gate
abbrev pub side_of : Side → ℕ
side_of Side.Gold = 0
side_of Side.Gate = 1

-- the three numbers of a refusal
abbrev pub numbers_of : Refusal → Model.Refusal
numbers_of r = refusal (number_of r.cause) (side_of r.side) r.place

-- the specification's numbers for what a check finds: nothing, or a refusal
unfoldable pub fault_of : {A : Type 0} → Result A Refusal → Option Model.Refusal
fault_of (Ok x) = none
fault_of (Err r) = some (numbers_of r)

-- a refusal that is passed on
pub fault_passed : {A : Type 0} (r : Result A Refusal) (x : Refusal) → IsErrAnd r (λ y. y ≡ x) → fault_of r ≡ some (numbers_of x)
unfolding fault_of
fault_passed (Ok f) x h = absurd h
fault_passed (Err y) x h = ap (λ (z : Refusal). some (numbers_of z)) h
