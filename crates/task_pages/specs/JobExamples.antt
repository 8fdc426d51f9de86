-- Words of the command line and what they assign.
use Rattle.std.specs.Prelude.{◌≡◌, [], codes, refl}
use Rattle.task_pages.specs.Jobs.{assignment, separator}

pub name_and_text : assignment (codes "n=007") ≡ (codes "n", codes "007")
name_and_text = refl

pub first_equals_parts : assignment (codes "a=b=c") ≡ (codes "a", codes "b=c")
first_equals_parts = refl

pub no_text : assignment (codes "n=") ≡ (codes "n", [])
no_text = refl

pub no_name : assignment (codes "=n") ≡ ([], codes "n")
no_name = refl

pub no_equals : assignment (codes "n") ≡ ([], codes "n")
no_equals = refl

pub letter_t : separator (codes "t") ≡ (codes "FS", codes "t")
letter_t = refl
