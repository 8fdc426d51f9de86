-- Small outputs, computed from their definition.
use Rattle.std.specs.Prelude.{◌≡◌, List, [], ◌∷◌, ◌++◌, codes, true, false, Some, None, Ok, Err, refl}
use Rattle.world_core.specs.declared.world.Ending.TheVariants.{End}
use Rattle.world_core.specs.declared.world.WorldFault.{WorldFault}
use Rattle.world_core.specs.declared.world.WorldFault.TheVariants.{Failed}
use Rattle.world_core.specs.WorldState.{Standard, Named, Entry, Outside, absent, free, replaced, Open, after, puts}
use Rattle.world_core.specs.Traces.{Call, Opened, Wrote, Other, Targets, actions_by, actions_of, opening, writing}
use Rattle.world_core.specs.TraceParts.{targets_after}

-- where no name holds anything
abbrev pub empty : Outside
empty = λ target. absent

-- where `f` holds `ab`, and has room for three bytes
abbrev pub small : Entry
small = record { bytes = Some (codes "ab"); ending = End; room = Some 3; opens = true }

abbrev pub with_small : Outside
with_small = replaced (Named (codes "f")) small empty

pub created : (after (Open (codes "f") false ∷ puts (Named (codes "f")) (codes "ab")) empty (Named (codes "f"))).bytes ≡ Some (codes "ab")
created = refl

pub created_empty : (after (Open (codes "f") true ∷ []) empty (Named (codes "f"))).bytes ≡ Some []
created_empty = refl

pub appended : (after (Open (codes "f") true ∷ puts (Named (codes "f")) (codes "c")) with_small (Named (codes "f"))).bytes ≡ Some (codes "abc")
appended = refl

pub emptied : (after (Open (codes "f") false ∷ puts (Named (codes "f")) (codes "c")) with_small (Named (codes "f"))).bytes ≡ Some (codes "c")
emptied = refl

pub others_kept : (after (Open (codes "f") false ∷ puts Standard (codes "x")) with_small (Named (codes "g"))).bytes ≡ None
others_kept = refl

pub standard_output : (after (puts Standard (codes "x") ++ puts (Named (codes "f")) (codes "c")
    ++ puts Standard (codes "y")) with_small Standard).bytes ≡ Some (codes "xy")
standard_output = refl

pub one_more_fits : free small ≡ Some 1
one_more_fits = refl

pub none_fits_past_the_room : free (record small { bytes = Some (codes "abcd") }) ≡ Some 0
none_fits_past_the_room = refl

pub no_limit : free absent ≡ None
no_limit = refl

-- a file is opened, written and written again, between texts to the standard output; what failed is nothing
abbrev pub at_start : Targets
at_start = λ id. Standard

abbrev pub some_calls : List Call
some_calls = Wrote 1 (codes "x") ∷ Opened (codes "f") false 2 ∷ Wrote 2 (codes "ab") ∷ Other ∷ Wrote 1 (codes "y") ∷ Wrote 2 (codes "c") ∷ []

pub their_actions : actions_of some_calls at_start ≡ puts Standard (codes "x") ++ Open (codes "f") false ∷ puts (Named (codes "f")) (codes "ab")
    ++ puts Standard (codes "y") ++ puts (Named (codes "f")) (codes "c")
their_actions = refl

pub their_bytes : (after (actions_of some_calls at_start) empty (Named (codes "f"))).bytes ≡ Some (codes "abc")
their_bytes = refl

-- a number is closed, and means another name once that is opened
pub opened_again : actions_of (Opened (codes "f") false 2 ∷ Other ∷ Opened (codes "g") true 2 ∷ Wrote 2 (codes "a") ∷ []) at_start
    ≡ Open (codes "f") false ∷ Open (codes "g") true ∷ puts (Named (codes "g")) (codes "a")
opened_again = refl

pub nothing_given : actions_of (Other ∷ Other ∷ []) at_start ≡ []
nothing_given = refl

pub still_standard : targets_after some_calls at_start 1 ≡ Standard
still_standard = refl

pub now_named : targets_after some_calls at_start 2 ≡ Named (codes "f")
now_named = refl

-- of a text the first bytes are taken; a name that does not open, and a write that fails, give nothing
pub taken : actions_by (writing {E = WorldFault} 1 (codes "abc") (Ok 2)) at_start ≡ puts Standard (codes "ab")
taken = refl

pub not_opened : opening (codes "f") true (Err Failed) ≡ Other
not_opened = refl

pub not_written : writing 1 (codes "abc") (Err Failed) ≡ Other
not_written = refl
