-- Worked rows: characters of UTF-8, and lines in the form of the GNU coding standards.
use Rattle.std.proofs.Common.{◌≡◌, [], ◌∷◌, ◌++◌, None, Some, codes, refl}
use Rattle.std.specs.Fmt.{digits}
use Rattle.face_check.specs.CheckPages.{characters, column_text, fault_line, help_text, next, place_column, place_text, question, sentence, what_text}

-- an e with an accent is two bytes and one character
accent-row : characters (codes "caf" ++ 195 ∷ 169 ∷ []) ≡ 4
unfolding characters
accent-row = refl

column-row : column_text (Some (codes "Main SETL $1,99999")) (Some 10) ≡ codes ":11"
unfolding column_text place_column next characters digits
column-row = refl

fit-row : fault_line (codes "a.mms")
    (record {
      refused = record { line = 1; fault = 43; from_line = 0 };
      at_line = 1;
      line = Some (codes "Main SETL $1,99999");
      caret = Some 13;
      length = 5;
      what = codes "Too large.";
      meant = [];
      help = codes "Use two.";
    })
    ≡ codes "a.mms:1:14: error: 43 Fit: Too large. Use two.\n"
unfolding fault_line place_text column_text place_column next sentence what_text help_text question characters digits
fit-row = refl

meant-row : fault_line (codes "a.mms")
    (record {
      refused = record { line = 1; fault = 82; from_line = 0 };
      at_line = 1;
      line = None;
      caret = None;
      length = 0;
      what = codes "No Main.";
      meant = codes "main";
      help = codes "Add it.";
    })
    ≡ codes "a.mms:1: error: 82 MainUndefined: No Main. Did you mean `main`? Add it.\n"
unfolding fault_line place_text column_text sentence what_text help_text question digits
meant-row = refl
