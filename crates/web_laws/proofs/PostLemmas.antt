-- The pairs of a form that was filled in, read as a post.
use Rattle.std.proofs.Common.{◌≡◌, ℕ, ◌&&◌, nat_le, subst, Bool, true, false, List, [], ◌∷◌, length, refl, sym, arith}
use Rattle.std.specs.Prelude.{Option, Ok, IfSome, All, map, nat_lt, codes}
use Rattle.std.specs.List.{list_all}
use Rattle.std.specs.Char.{to_ascii_lowercase}
use Rattle.std.proofs.lemmas.Bool.{false≢true}
use Rattle.std.proofs.lemmas.Bool.Decides.{nat_tests}
use Rattle.std.proofs.lemmas.List.Elements.{All-nil, All-cons}
use Rattle.login_base.specs.IdText.{id_bytes, IsId}
use Rattle.login_base.specs.Names.{is_name, is_name_byte, is_first_byte}
use Rattle.login_base.specs.declared.id.Code.{Code}
use Rattle.login_base.specs.declared.id.RootKey.{RootKey}
use Rattle.login_base.specs.declared.id.TabKey.{TabKey}
use Rattle.login_base.proofs.HexText.{id_again}
use Rattle.flow_tree.specs.declared.exec.Kind.{Kind}
use Rattle.flow_tree.specs.declared.exec.Kind.TheVariants as kinds
use Rattle.realm_data.specs.declared.action.Action.{Action}
use Rattle.realm_data.specs.declared.action.Action.TheVariants as actions
use Rattle.realm_fields.specs.Words.{action_of}
use Rattle.asks.specs.declared.ask.Ask.TheVariants as asks
use Rattle.reply_words.specs.Words.{action_words}
use Rattle.ask_pairs.specs.declared.pairs.Pair.{Pair}
use Rattle.ask_pairs.specs.Credentials.{is_password, is_code_value}
use Rattle.ask_pairs.specs.Pairs.{pairs_of}
use Rattle.ask_pairs.specs.Posts.{post, post_target, form_with}
use Rattle.web_pages.specs.declared.field.Field.{Field}
use Rattle.web_pages.specs.declared.field.Field.TheVariants as fields
use Rattle.web_pages.specs.Forms.{kind_fields, action_fields}
use Rattle.web_laws.specs.Filled.{Typed, field_pair, form_pairs, posted, execution_form, action_form}
use Rattle.web_laws.proofs.PairLemmas.{IsAsciiByte, IsText, from_ascii, id_text, AreTexts, no_texts, more_texts, read_again}

-- ---- the texts of a form

one_more : (r : Bool) (b : ℕ) (bytes : List ℕ) → nat_lt b 128 ≡ r → (r && list_all (λ c. nat_lt c 128) bytes) ≡ true → (list_all (λ c. nat_lt c 128) bytes ≡ true → All IsAsciiByte bytes) → All IsAsciiByte (b ∷ bytes)
one_more true b bytes is all more = All-cons IsAsciiByte b bytes (grind (arith, nat_tests)) (more all)
one_more false b bytes is all more = absurd (false≢true all)

ascii : (text : List ℕ) → list_all (λ b. nat_lt b 128) text ≡ true → All IsAsciiByte text
ascii [] e = All-nil IsAsciiByte
ascii (b ∷ bytes) e = one_more (nat_lt b 128) b bytes refl e (ascii bytes)

known : (text : List ℕ) → list_all (λ b. nat_lt b 128) text ≡ true → IsText text
known text e = from_ascii text (ascii text e)

typed_texts : (typed : Typed) (own : List Field) → IsText typed.name → IsText typed.password → IsText typed.value → AreTexts (map (field_pair typed) own)
typed_texts typed [] n p v = no_texts
typed_texts typed (fields.Name ∷ own) n p v = more_texts (codes "name") typed.name (map (field_pair typed) own) (known (codes "name") refl) n (typed_texts typed own n p v)
typed_texts typed (fields.Password ∷ own) n p v = more_texts (codes "password") typed.password (map (field_pair typed) own) (known (codes "password") refl) p (typed_texts typed own n p v)
typed_texts typed (fields.Value ∷ own) n p v = more_texts (codes "value") typed.value (map (field_pair typed) own) (known (codes "value") refl) v (typed_texts typed own n p v)

form_texts : (tab : TabKey) (code : Code) (kind name : List ℕ) (own : List Field) (typed : Typed) → IsText kind → IsText name → IsText typed.name → IsText typed.password → IsText typed.value → AreTexts (form_pairs tab code kind name own typed)
form_texts tab code kind name own typed k i n p v =
    more_texts (codes "tab") (id_bytes tab.0) _ (known (codes "tab") refl) (id_text tab.0)
    (more_texts (codes "code") (id_bytes code.0) _ (known (codes "code") refl) (id_text code.0)
    (more_texts kind name _ k i (typed_texts typed own n p v)))

-- ---- names stay

lower_byte : (b : ℕ) → is_name_byte b ≡ true → to_ascii_lowercase b ≡ b
lower_byte b e = grind (arith, nat_tests)

lower_more : (r : Bool) (b : ℕ) (bytes : List ℕ) → is_name_byte b ≡ r → (r && list_all is_name_byte bytes) ≡ true → (list_all is_name_byte bytes ≡ true → map to_ascii_lowercase bytes ≡ bytes) → map to_ascii_lowercase (b ∷ bytes) ≡ b ∷ bytes
lower_more true b bytes is all more = rw (lower_byte b is, more all) refl
lower_more false b bytes is all more = absurd (false≢true all)

lower_all : (text : List ℕ) → list_all is_name_byte text ≡ true → map to_ascii_lowercase text ≡ text
lower_all [] e = refl
lower_all (b ∷ bytes) e = lower_more (is_name_byte b) b bytes refl e (lower_all bytes)

last_of : (p q r : Bool) → (p && q && r) ≡ true → r ≡ true
last_of true true true e = refl
last_of true true false e = e
last_of true false r e = absurd (false≢true e)
last_of false q r e = absurd (false≢true e)

lower_name : (text : List ℕ) → is_name text ≡ true → map to_ascii_lowercase text ≡ text
lower_name [] e = refl
lower_name (b ∷ bytes) e = lower_all (b ∷ bytes) (last_of (nat_le (length (b ∷ bytes)) 64) (is_first_byte b) (list_all is_name_byte (b ∷ bytes)) e)

-- ---- the post

execution : (root : Option RootKey) (tab : TabKey) (code : Code) (kind : Kind) (id : List ℕ) (typed : Typed)
    → IsId tab.0 → IsId code.0 → is_name id ≡ true → is_name typed.name ≡ true → is_password typed.password ≡ true → is_code_value typed.value ≡ true
    → IfSome (execution_form kind id typed) (λ form. post (Ok root) (map (λ pair. record { name = pair.0; value = pair.1 }) (form_pairs tab code (codes "execution") id (kind_fields kind) typed)) ≡ Ok (asks.Post (record { root = root; tab = tab; code = code; form = form })))
unfolding post_target form_with
execution root tab code kinds.Username id typed t c i n p v = rw (id_again tab.0 t, id_again code.0 c, i, lower_name typed.name n, n) refl
execution root tab code kinds.Password id typed t c i n p v = rw (id_again tab.0 t, id_again code.0 c, i, p) refl
execution root tab code kinds.Form id typed t c i n p v = rw (id_again tab.0 t, id_again code.0 c, i, lower_name typed.name n, n, p) refl
execution root tab code kinds.Otp id typed t c i n p v = rw (id_again tab.0 t, id_again code.0 c, i, v) refl
execution root tab code kinds.Recovery id typed t c i n p v = rw (id_again tab.0 t, id_again code.0 c, i, v) refl
execution root tab code kinds.Allow id typed t c i n p v = tt
execution root tab code kinds.Deny id typed t c i n p v = tt
execution root tab code kinds.Cookie id typed t c i n p v = tt

pub execution_back : (root : Option RootKey) (tab : TabKey) (code : Code) (kind : Kind) (id : List ℕ) (typed : Typed)
    → IsId tab.0 → IsId code.0 → is_name id ≡ true → is_name typed.name ≡ true → is_password typed.password ≡ true → is_code_value typed.value ≡ true
    → IsText id → IsText typed.name → IsText typed.password → IsText typed.value
    → IfSome (execution_form kind id typed) (λ form. post (Ok root) (pairs_of (posted tab code (codes "execution") id (kind_fields kind) typed)) ≡ Ok (asks.Post (record { root = root; tab = tab; code = code; form = form })))
execution_back root tab code kind id typed t c i n p v it nt pt vt =
    let pairs = form_pairs tab code (codes "execution") id (kind_fields kind) typed in
    let again = read_again pairs (form_texts tab code (codes "execution") id (kind_fields kind) typed (known (codes "execution") refl) it nt pt vt) in
    subst (λ (read : List Pair). IfSome (execution_form kind id typed) (λ form. post (Ok root) read ≡ Ok (asks.Post (record { root = root; tab = tab; code = code; form = form }))))
    (sym again) (execution root tab code kind id typed t c i n p v)

action_text : (action : Action) → IsText (action_words action)
unfolding action_words
action_text actions.Terms = known (codes "terms") refl
action_text actions.VerifyEmail = known (codes "verify_email") refl
action_text actions.UpdatePassword = known (codes "update_password") refl
action_text actions.ConfigureOtp = known (codes "configure_otp") refl
action_text actions.RecoveryCodes = known (codes "recovery_codes") refl

action_post : (root : Option RootKey) (tab : TabKey) (code : Code) (action : Action) (typed : Typed)
    → IsId tab.0 → IsId code.0 → is_password typed.password ≡ true → is_code_value typed.value ≡ true
    → post (Ok root) (map (λ pair. record { name = pair.0; value = pair.1 }) (form_pairs tab code (codes "action") (action_words action) (action_fields action) typed)) ≡ Ok (asks.Post (record { root = root; tab = tab; code = code; form = action_form action typed }))
unfolding post_target form_with action_words action_of
action_post root tab code actions.Terms typed t c p v = rw (id_again tab.0 t, id_again code.0 c) refl
action_post root tab code actions.VerifyEmail typed t c p v = rw (id_again tab.0 t, id_again code.0 c) refl
action_post root tab code actions.UpdatePassword typed t c p v = rw (id_again tab.0 t, id_again code.0 c, p) refl
action_post root tab code actions.ConfigureOtp typed t c p v = rw (id_again tab.0 t, id_again code.0 c, v) refl
action_post root tab code actions.RecoveryCodes typed t c p v = rw (id_again tab.0 t, id_again code.0 c) refl

pub action_back : (root : Option RootKey) (tab : TabKey) (code : Code) (action : Action) (typed : Typed)
    → IsId tab.0 → IsId code.0 → is_password typed.password ≡ true → is_code_value typed.value ≡ true
    → IsText typed.name → IsText typed.password → IsText typed.value
    → post (Ok root) (pairs_of (posted tab code (codes "action") (action_words action) (action_fields action) typed)) ≡ Ok (asks.Post (record { root = root; tab = tab; code = code; form = action_form action typed }))
action_back root tab code action typed t c p v nt pt vt =
    let pairs = form_pairs tab code (codes "action") (action_words action) (action_fields action) typed in
    let again = read_again pairs (form_texts tab code (codes "action") (action_words action) (action_fields action) typed (known (codes "action") refl) (action_text action) nt pt vt) in
    subst (λ (read : List Pair). post (Ok root) read ≡ Ok (asks.Post (record { root = root; tab = tab; code = code; form = action_form action typed })))
    (sym again) (action_post root tab code action typed t c p v)

pub empty_text : IsText []
empty_text = known [] refl
