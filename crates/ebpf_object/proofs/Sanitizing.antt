-- Functions whose slots are written, one by one.
use Rattle.std.proofs.Common.{◌≡◌, ℕ, true, false, Option, Some, None, refl, ap, ◌∙◌, Bool, cond, ◌&&◌, ◌||◌, List, [], ◌∷◌, map, sym}
use Rattle.std.specs.Prelude.{option_map, pos, MatchBool}
use Rattle.std.specs.FinMap.{FinMap, get, same_map}
use Rattle.ebpf_base.proofs.Mapped.{get-map_values}
use Rattle.ebpf_base.proofs.Maps.{key_exact}
use Rattle.ebpf_base.specs.Maps.{key_cmp, key_total, map_values}
use Rattle.ebpf_model.specs.declared.function.Function.{Function}
use Rattle.ebpf_object.specs.OlderHelpers.{sanitized, reads_bytes, reads_text, older, have_newer, TwiceIsOnce}
use Rattle.ebpf_parts.specs.Slots.{is_helper_call}
use Rattle.ebpf_parts.specs.declared.insn.bpf_insn.{bpf_insn}

-- at each key stands the function that is written
pub older_functions : (before after : FinMap key_cmp Function) → after ≡ map_values (sanitized false) before → (key : ℕ × ℕ) → get after key ≡ option_map (sanitized false) (get before key)
older_functions before after e key = ap (λ m. get m key) e ∙ get-map_values (sanitized false) before key

-- functions that stay are those of a kernel with the newer helper functions
pub stay : (o : Option Function) → o ≡ option_map (sanitized true) o
stay None = refl
stay (Some f) = refl

-- ---- functions that are made fit for a kernel twice

slot_twice : (s : bpf_insn) → older (older s) ≡ older s
slot_twice s = by (is_helper_call s) (reads_bytes s.imm) (reads_text s.imm) refl refl refl
  where
    by : (h a b : Bool) → is_helper_call s ≡ h → reads_bytes s.imm ≡ a → reads_text s.imm ≡ b
        → older (cond (h && (a || b)) (record s { imm = cond a (pos 4) (cond b (pos 45) s.imm) }) s) ≡ cond (h && (a || b)) (record s { imm = cond a (pos 4) (cond b (pos 45) s.imm) }) s
    by false a b e f g = rw e refl
    by true true b e f g = rw e refl
    by true false true e f g = rw e refl
    by true false false e f g = rw (e, f, g) refl

slots_twice : (xs : List bpf_insn) → map older (map older xs) ≡ map older xs
slots_twice [] = refl
slots_twice (x ∷ xs) = λ i. slot_twice x i ∷ slots_twice xs i

function_twice : (a : Bool) (f : Function) → sanitized a (sanitized a f) ≡ sanitized a f
function_twice true f = refl
function_twice false f = ap (λ xs. record f { instructions = xs }) (slots_twice f.instructions)

there_twice : (a : Bool) (o : Option Function) → option_map (sanitized a) (option_map (sanitized a) o) ≡ option_map (sanitized a) o
there_twice a None = refl
there_twice a (Some f) = ap Some (function_twice a f)

abbrev Each : Bool → FinMap key_cmp Function → FinMap key_cmp Function → Type 0
Each a m n = (key : ℕ × ℕ) → get n key ≡ option_map (sanitized a) (get m key)

pub twice : TwiceIsOnce
twice answer before after again first second = by (have_newer after) refl second
  where
    stays : (a b : Bool) → a ≡ answer → b ≡ answer → Each a before after → Each b after again → again ≡ after
    stays a b e f m n = same_map key_total key_exact again after (λ q.
        n q ∙ ap (λ x. option_map (sanitized x) (get after q)) (f ∙ sym e)
        ∙ ap (option_map (sanitized a)) (m q) ∙ there_twice a (get before q) ∙ sym (m q))

    asked : (b c : Bool) → have_newer after ≡ true → have_newer before ≡ c → b ≡ answer → Each b after again
        → MatchBool c ((a : Bool) × (a ≡ answer) × Each a before after) (after ≡ before) → again ≡ after
    asked b true now was f n h = stays h.0 b h.1 f h.2 n
    asked b false now was f n h = let no : have_newer after ≡ false = ap have_newer h ∙ was in cc

    by : (c : Bool) → have_newer after ≡ c → MatchBool c ((b : Bool) × (b ≡ answer) × Each b after again) (again ≡ after) → again ≡ after
    by true now h = asked h.0 (have_newer before) now refl h.1 h.2 first
    by false now h = h
