-- A needed item is missing exactly where the walk reads that one is.
use Rattle.std.proofs.Common.{◌≡◌, ◌∙◌, sym, refl, Bool, true, false, cond, ◌||◌, List, [], ◌∷◌, ℕ, Option, Some, None}
use Rattle.std.specs.Str.{is_utf8}
use Rattle.rust_value.specs.declared.value.Val.{Val}
use Rattle.rust_value.specs.declared.value.Val.TheVariants as vals
use Rattle.layout_values.specs.Images.{Paired}
use Rattle.layout_values.specs.Reached.{is_missing, some_of, named_some, content_lacks, text_lacks, lacking}
use Rattle.layout_values.proofs.Related.{Both, Named, Related}
use Rattle.value_reader.specs.declared.checked.Checked.{Checked}
use Rattle.value_reader.specs.declared.checked.Checked.TheVariants.{Valid, Invalid, Missing}
use Rattle.value_reader.specs.Checking.{map_checked, both}
use Rattle.value_reader.specs.Lacking.{misses}
use Rattle.value_reader.specs.Reads.{named, or_missing, text_content, checked_parts, all_checked, checked_content, reading}

missing_map : {A B : Type 0} (f : A → B) (s : Checked A) → misses (map_checked f s) ≡ misses s
missing_map f (Valid a) = refl
missing_map f Invalid = refl
missing_map f Missing = refl

missing_both : {A B C : Type 0} (f : A → B → C) (s : Checked A) (r : Checked B) → misses (both f s r) ≡ misses s || misses r
missing_both f (Valid a) (Valid b) = refl
missing_both f (Valid a) Invalid = refl
missing_both f (Valid a) Missing = refl
missing_both f Invalid (Valid b) = refl
missing_both f Invalid Invalid = refl
missing_both f Invalid Missing = refl
missing_both f Missing r = refl

abbrev pub Lacks : Bool → Checked Val → Type 0
Lacks b s = b ≡ misses s

missing_parts : (xs : List (List ℕ × Bool)) (ys : List (List ℕ × Checked Val)) → Paired (Named Lacks) xs ys → named_some xs ≡ misses (checked_parts ys)
missing_parts [] [] h = refl
missing_parts [] (y ∷ ys) h = absurd h
missing_parts (x ∷ xs) [] h = absurd h
missing_parts (x ∷ xs) (y ∷ ys) h = rw
    (missing_both (λ z zs. z ∷ zs) (map_checked (named y.0) y.1) (checked_parts ys), missing_map (named y.0) y.1, h.0.1, missing_parts xs ys h.1) refl

missing_all : (xs : List Bool) (ys : List (Checked Val)) → Paired Lacks xs ys → some_of xs ≡ misses (all_checked ys)
missing_all [] [] h = refl
missing_all [] (y ∷ ys) h = absurd h
missing_all (x ∷ xs) [] h = absurd h
missing_all (x ∷ xs) (y ∷ ys) h = rw (missing_both (λ z zs. z ∷ zs) y (all_checked ys), h.0, missing_all xs ys h.1) refl

missing_content : (o : Option Bool) (q : Option (Checked Val)) → Both Lacks o q → content_lacks o ≡ misses (checked_content q)
missing_content None None h = refl
missing_content None (Some y) h = absurd h
missing_content (Some x) None h = absurd h
missing_content (Some x) (Some y) h = h ∙ sym (missing_map Some y)

missing_if : (b : Bool) (text : List ℕ) → misses (cond b (Valid (Some text)) Invalid) ≡ false
missing_if true text = refl
missing_if false text = refl

missing_text : (o : Option (Option (List ℕ))) → text_lacks o ≡ misses (text_content o)
missing_text None = refl
missing_text (Some None) = refl
missing_text (Some (Some text)) = sym (missing_if (is_utf8 text) text)

missing_bytes : (o : Option (List ℕ)) → is_missing o ≡ misses (or_missing o)
missing_bytes None = refl
missing_bytes (Some all) = refl

pub lacks_related : Related Lacks lacking reading
lacks_related = record {
  node = λ x y h. h;
  nothing = refl;
  gone = refl;
  bad = refl;
  scalar = λ x. refl;
  fields = λ xs ys h. missing_parts xs ys h ∙ sym (missing_map vals.Fields (checked_parts ys));
  variant = λ name xs ys h. missing_parts xs ys h ∙ sym (missing_map (vals.Variant name) (checked_parts ys));
  seq = λ count xs ys h. missing_all xs ys h ∙ sym (missing_map (vals.Seq count) (all_checked ys));
  pointer = λ kind at o q h. missing_content o q h ∙ sym (missing_map (vals.Pointer kind at) (checked_content q));
  slice = λ kind at len o q h. missing_content o q h ∙ sym (missing_map (vals.Slice kind at len) (checked_content q));
  text = λ kind at len o. missing_text o ∙ sym (missing_map (vals.Str kind at len) (text_content o));
  bytes = λ count o. missing_bytes o ∙ sym (missing_map vals.Bytes (or_missing o));
}
