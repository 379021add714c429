use Rattle.std.proofs.Common.{◌≡◌, ◌∙◌, sym, ap, ℕ, ◌<◌, ◌+◌, suc, true, false, cond, List, ◌∷◌, map, length, drop, get_or, Some, None, add-one, min, take, arith}
use Rattle.std.proofs.lemmas.Grind.{common_steps}
use Rattle.std.proofs.Math.Seq.{drop-cons}
use Rattle.std.specs.Str.{bytes_eq}
use Rattle.std.specs.FinMap.{get-from_entries}
use Rattle.std.proofs.lemmas.Cmp.{nat_list_cmp_total}
use Rattle.std.proofs.lemmas.Map.Text.{is_eq-slice_cmp}
use Rattle.rv_io.specs.declared.mem_inputs.File.{File}
use Rattle.rv_io.specs.Files.{file}
use Rattle.rv_io.specs.MemInputs.{entry, told_by, find_file}

pub file-told_by : (files : List File) (name : List ℕ) → file (told_by files) name ≡ find_file name files
file-told_by files name = get-from_entries nat_list_cmp_total (map entry files) name

step : (name : List ℕ) (f : File) (fs : List File) → find_file name (f ∷ fs) ≡ cond (bytes_eq name f.name) (Some f.bytes) (find_file name fs)
step name f fs = ap (λ b. cond b (Some f.bytes) (find_file name fs)) (is_eq-slice_cmp name f.name)

pub at_index : (name : List ℕ) (files : List File) (i : ℕ) (f : File) → i < length files → f ≡ get_or files i f → find_file name (drop i files) ≡ cond (bytes_eq name f.name) (Some f.bytes) (find_file name (drop (i + 1) files))
at_index name files i f h e =
    ap (find_file name) (drop-cons files i f h ∙ ap (λ x. x ∷ drop (suc i) files) (sym e)) ∙ step name f (drop (suc i) files) ∙ ap (λ n. cond (bytes_eq name f.name) (Some f.bytes) (find_file name (drop n files))) (sym (add-one i))

pub found_at : (name : List ℕ) (files : List File) (i : ℕ) (f : File) → i < length files → f ≡ get_or files i f → bytes_eq name f.name ≡ true → find_file name (drop i files) ≡ find_file name files → Some f.bytes ≡ find_file name files
found_at name files i f h e b p = sym (ap (λ t. cond t (Some f.bytes) (find_file name (drop (i + 1) files))) b) ∙ sym (at_index name files i f h e) ∙ p

pub passed_at : (name : List ℕ) (files : List File) (i : ℕ) (f : File) → i < length files → f ≡ get_or files i f → bytes_eq name f.name ≡ false → find_file name (drop i files) ≡ find_file name files → find_file name (drop (i + 1) files) ≡ find_file name files
passed_at name files i f h e b p = sym (ap (λ t. cond t (Some f.bytes) (find_file name (drop (i + 1) files))) b) ∙ sym (at_index name files i f h e) ∙ p

pub take_least : (n m : ℕ) (bytes : List ℕ) → m ≡ min (length bytes) n → take m bytes ≡ take n bytes
take_least n m bytes e = grind (arith, common_steps)

-- a file that is found isn't lacking
pub found_is_there : (files : List File) (name bytes : List ℕ) → find_file name files ≡ Some bytes → file (told_by files) name ≡ None → ⊥
found_is_there files name bytes found none = let e : Some bytes ≡ None = sym found ∙ sym (file-told_by files name) ∙ none in cc

pub no_truth : false ≡ true → ⊥
no_truth e = cc
