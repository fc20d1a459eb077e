-- Lambda after items is that of their meaning, and moves with each item.
use Rattle.std.proofs.Common.{◌≡◌, ℕ, ◌+◌, ◌*◌, ◌/◌, ◌%◌, ◌^◌, Bool, true, false, cond, List, [], ◌∷◌, Some, None, Result, Ok, Err, refl, sym, ap, subst, ◌∙◌}
use Rattle.mx_mmo.specs.Image.{Image}
use Rattle.mx_mmo.specs.Meaning.{Loading, Meaningless, after_load, join, join_octa, nothing, take_item, take_items, tetras_before, far_place, with_image}
use Rattle.mx_mmo.specs.Meaning.Meaningless.{NoFile}
use Rattle.mx_type.proofs.Words.{Item, Load, Loc, Skip, FixOcta, FixNear, FixFar, File, Line, Spec, Pre, Post, Stab, lambda_after, lambda_following, lambda_of}

-- where there is something, lambda is this address
abbrev LambdaIs : ℕ → Result Loading Meaningless → Type 0
LambdaIs a (Ok s) = s.lambda ≡ a
LambdaIs a (Err e) = Unit {0}

loaded : (s : Loading) (r : Result Image Meaningless) → LambdaIs ((4 * (s.lambda / 4) + 4) % 2 ^ 64) (after_load s r)
loaded s (Ok m) = refl
loaded s (Err e) = tt

fixed : (s : Loading) (r : Result Image Meaningless) → LambdaIs s.lambda (with_image s r)
fixed s (Ok m) = refl
fixed s (Err e) = tt

chosen : (s t : Loading) (b : Bool) (e : Meaningless) → t.lambda ≡ s.lambda → LambdaIs s.lambda (cond b (Ok t) (Err e))
chosen s t true e is = is
chosen s t false e is = tt

-- one item moves lambda as its meaning does
moved : (s : Loading) (item : Item) → LambdaIs (lambda_after s.lambda item) (take_item s item)
moved s (Load t) = loaded s (join s.image s.lambda t)
moved s (Loc a) = refl
moved s (Skip n) = refl
moved s (FixOcta a) = fixed s (join_octa s.image a s.lambda)
moved s (FixNear n) = fixed s (join s.image (tetras_before n s.lambda) n)
moved s (FixFar bits t) = fixed s (join s.image (far_place s.lambda bits t) t)
moved s (File number (Some name)) = refl
moved s (File number None) = chosen s _ (s.named number) NoFile refl
moved s (Line n) = chosen s _ s.selected NoFile refl
moved s (Spec n) = refl
moved s (Pre tetras) = refl
moved s (Post g values) = refl
moved s Stab = refl

abbrev lambda_in : Result Loading Meaningless → ℕ
lambda_in (Ok s) = s.lambda
lambda_in (Err e) = 0

along : (items : List Item) (r : Result Loading Meaningless) (a : ℕ) (t : Loading) → LambdaIs a r → take_items items r ≡ Ok t → lambda_following a items ≡ t.lambda
unfolding lambda_following
along [] (Ok s) a t is e = sym is ∙ ap lambda_in e
along [] (Err f) a t is e = cc e
along (i ∷ items) (Ok s) a t is e = along items (take_item s i) (lambda_after a i) t (subst (λ b. LambdaIs (lambda_after b i) (take_item s i)) is (moved s i)) e
along (i ∷ items) (Err f) a t is e = cc e

pub meaning-lambda : (items : List Item) (s : Loading) → take_items items (Ok nothing) ≡ Ok s → lambda_of items ≡ s.lambda
meaning-lambda items s e = along items (Ok nothing) 0 s refl e

here : (r : Result Loading Meaningless) (a : ℕ) (t : Loading) → LambdaIs a r → r ≡ Ok t → t.lambda ≡ a
here (Ok s) a t is e = sym (ap lambda_in e) ∙ is
here (Err f) a t is e = cc e

pub meaning-moved : (s t : Loading) (item : Item) → take_item s item ≡ Ok t → t.lambda ≡ lambda_after s.lambda item
meaning-moved s t item e = here (take_item s item) (lambda_after s.lambda item) t (moved s item) e

pub ruleset meaning = (meaning-moved, meaning-lambda)
