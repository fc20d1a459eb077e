-- The words of clauses over any world that has a host in it, over a host, and over a space and a host. `old` and `new` are what
-- the host told before and after, `first` and `last` the worlds or the contents of the space, `earlier` and `later` the counts of
-- faults.
use Rattle.std.specs.Prelude.{ℕ, ◌≡◌, ◌≤◌, IsTrue, Option, Result, Err}
use Rattle.mx_mem.specs.Space.{Contents}
use Rattle.mx_host.specs.HostModel.{HostModel, tells, contents}
use Rattle.mx_host.specs.declared.faults.HostFault.{HostFault}
use Rattle.mx_host.specs.declared.faults.HostFault.TheVariants.{OutOfMemory}
use Rattle.mx_host.specs.Keeping.{HasStreams}
use Rattle.mx_plan.specs.Plan.{Plan, Acts, Comes}
use Rattle.mx_plan.specs.Calls.{host, HostPlan, space, SpacePlan, both, BothPlan}

-- whether the host tells its contents is as before, its count of faults did not fall, and where the slots of the tool's
-- standard input and output led to these streams, they still do
abbrev pub KeepsHost : Option HostModel → Option HostModel → ℕ → ℕ → Type 0
KeepsHost old new earlier later = (tells new ≡ tells old) × (earlier ≤ later) × (HasStreams old → HasStreams new)

-- A call carries out a plan, from one world to another, where the host tells its contents: unless the answer is `none`, which is
-- that of no memory, the answer and the last world are the plan's end; where it is, the calls that were completed stay, of one that
-- lacked memory what it leaves then, and nothing else changed. The words `CarriesOut..` say over what: this is what they mean.
abbrev pub CarriesOut : {O : Type 0} {R : O → Type 0} {W A : Type 0} → Acts O R W → Option HostModel → W → W → A → A → Plan O R A → Type 0
CarriesOut d old first last none result plan = IsTrue (tells old) → Comes d first last none result plan

-- over a host alone, whose contents are the world
abbrev pub CarriesOutOnHost : {A : Type 0} → Option HostModel → Option HostModel → A → A → HostPlan A → Type 0
CarriesOutOnHost old new none result plan = CarriesOut host old (contents old) (contents new) none result plan

-- the same of a call on a slot of a host: `told` is what that tells, `old` and `new` are the host before and after
abbrev pub CarriesOutCall : {H A : Type 0} → (H → Option HostModel) → H → H → Result A HostFault → HostPlan (Result A HostFault) → Type 0
CarriesOutCall told old new result plan = CarriesOutOnHost (told old) (told new) (Err OutOfMemory) result plan

-- over a space and a host: the bytes that were put stay, and the calls that were completed
abbrev pub CarriesOutOnSpace : {A Rest : Type 0} → Option HostModel → Option HostModel → Contents Rest → Contents Rest → A → A → BothPlan A → Type 0
CarriesOutOnSpace old new first last none result plan =
    CarriesOut both old (first, contents old) (last, contents new) none result plan

-- what comes of a plan over a space alone: `holds` is what it holds
abbrev pub ComesOnSpace : {M A Rest : Type 0} → (M → Contents Rest) → M → M → A → A → SpacePlan A → Type 0
ComesOnSpace holds old new none result plan = Comes space (holds old) (holds new) none result plan
