-- What a host's input has open, and where its writers go, are propositions: one proof is as good as another.
use Rattle.std.specs.Prelude.{ℕ, List, [], ◌∷◌}
use Rattle.std.specs.Coded.{Unit-prop, ×_prop}
use Rattle.std.proofs.Props.{props}
use mathlib.Core.Sum.{⊎_set}
use Rattle.world_core.specs.Calls.{Kind}
use Rattle.world_core.specs.WorldState.{State, Target}
use Rattle.host_streams.specs.Mains.{FileIsOpen, HoldsMain, IsApartFrom, StandardIs}
use Rattle.host_streams.specs.OpenFiles.{AreOpen, HoldsOpen, IsApart, WritersGo}
use Rattle.host_streams.specs.declared.main_input.MainInput.{MainInput}
use Rattle.host_streams.specs.declared.main_input.Reading.{Reading}
use Rattle.host_streams.specs.declared.main_input.Reading.TheVariants as reading
use Rattle.host_streams.specs.declared.reader.Phase.{Phase}
use Rattle.host_streams.specs.declared.streams.NamedWriter.{NamedWriter}
use Rattle.host_streams.specs.declared.streams.Streams.{Streams}
use Rattle.host_worlds.specs.States.{AreApart, FilesApart, HoldsInput}
use Rattle.host_worlds.specs.declared.input.Input.{Input}

Kind-set : IsSet Kind
Kind-set = hlevel (⊎_set)

Target-set : IsSet Target
Target-set = hlevel (⊎_set, props)

FileIsOpen-prop : (r : Reading) (kinds : ℕ → Kind) → IsProp (FileIsOpen r kinds)
FileIsOpen-prop reading.Nothing kinds = Unit-prop
FileIsOpen-prop reading.Standard kinds = Unit-prop
FileIsOpen-prop (reading.File r) kinds = hlevel (props, Kind-set)

StandardIs-prop : (r : Reading) (p : Phase) → IsProp (StandardIs r p)
StandardIs-prop reading.Nothing p = hlevel
StandardIs-prop reading.Standard p = Unit-prop
StandardIs-prop (reading.File r) p = hlevel

HoldsMain-prop : (m : MainInput) (kinds : ℕ → Kind) → IsProp (HoldsMain m kinds)
HoldsMain-prop m kinds = hlevel (props, FileIsOpen-prop, StandardIs-prop)

IsApart-prop : (h : List ℕ × ℕ) (hs : List (List ℕ × ℕ)) → IsProp (IsApart h hs)
IsApart-prop h [] = Unit-prop
IsApart-prop h (g ∷ gs) = let rest : IsProp (IsApart h gs) = IsApart-prop h gs in hlevel rest

AreOpen-prop : (kind : Kind) (hs : List (List ℕ × ℕ)) (kinds : ℕ → Kind) → IsProp (AreOpen kind hs kinds)
AreOpen-prop kind [] kinds = Unit-prop
AreOpen-prop kind (h ∷ hs) kinds =
    let rest : IsProp (AreOpen kind hs kinds) = AreOpen-prop kind hs kinds in
    hlevel (props, Kind-set, IsApart-prop, rest)

HoldsOpen-prop : (s : Streams) (kinds : ℕ → Kind) → IsProp (HoldsOpen s kinds)
HoldsOpen-prop s kinds = ×_prop (AreOpen-prop _ _ kinds) (AreOpen-prop _ _ kinds)

IsApartFrom-prop : (k : ℕ) (r : Reading) → IsProp (IsApartFrom k r)
IsApartFrom-prop k reading.Nothing = Unit-prop
IsApartFrom-prop k reading.Standard = Unit-prop
IsApartFrom-prop k (reading.File r) = hlevel

AreApart-prop : (r : Reading) (hs : List (List ℕ × ℕ)) → IsProp (AreApart r hs)
AreApart-prop r [] = Unit-prop
AreApart-prop r (h ∷ hs) = ×_prop (IsApartFrom-prop h.1 r) (AreApart-prop r hs)

FilesApart-prop : (r : Reading) (s : Streams) → IsProp (FilesApart r s)
FilesApart-prop r s = ×_prop (AreApart-prop r _) (AreApart-prop r _)

pub HoldsInput-prop : (i : Input) (kinds : ℕ → Kind) → IsProp (HoldsInput i kinds)
HoldsInput-prop i kinds = hlevel (HoldsMain-prop, HoldsOpen-prop, FilesApart-prop)

pub WritersGo-prop : (ws : List NamedWriter) (state : State) → IsProp (WritersGo ws state)
WritersGo-prop [] state = Unit-prop
WritersGo-prop (w ∷ ws) state = ×_prop (hlevel Target-set) (WritersGo-prop ws state)
