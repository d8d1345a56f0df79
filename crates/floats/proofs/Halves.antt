-- The middle of two numbers that a format holds, in units of its smallest value: α and ζ, and μ, half of their sum S
-- rounded as the format rounds it (`Half`). Where μ lies strictly between, both parts are two thirds of the whole at
-- most (`both-thirds`); where some number of the format lies strictly between, μ does (`lies-between`). A number of the
-- format is q * 2 ^ j with q below 2 H (`Grid`); H is 2 ^ 52 for an f64. Nothing here is about floats. Assumes nothing.
use mathlib.Core.Path.{◌≡◌, refl, sym, ap, ◌∙◌}
use mathlib.Core.Logic.{◌⊎◌, inl, inr}
use mathlib.Core.Bool.{Bool, true, false, not}
use Prim.Native.Nat.{ℕ, zero, suc, ◌+◌, ◌-◌, ◌*◌, ◌^◌, ◌≤◌, ◌<◌}
use native.Mathlib.Nat.{mul-one, mul_assoc, mul-le-mul_left, mul-le-mul_right, mul-lt-mul_of_pos_right}
use native.Mathlib.Nat.{le_of_mul-le-mul_right, lt_of_mul-lt-mul_right}
use native.Mathlib.Omega.{arith}
use lib.Dec.{T, ltb, ltb→lt, nltb→le}
use lib.Pow.{pow-add, pow_pos, pow_mono}

-- ---- the numbers of the format
abbrev pub Grid : ℕ → ℕ → Type 0
Grid H n = (q : ℕ) × (j : ℕ) × (n ≡ q * 2 ^ j) × (q < 2 * H)

abbrev pub Multiple : ℕ → ℕ → Type 0
Multiple n G = (z : ℕ) × (n ≡ z * G)

pub less-or-not : (a b : ℕ) → (a < b) ⊎ (b ≤ a)
less-or-not a b = go (ltb a b) (ltb→lt a b) (nltb→le a b)
  where
    go : (t : Bool) → (T t → a < b) → (T (not t) → b ≤ a) → (a < b) ⊎ (b ≤ a)
    go true h k = inl (h tt)
    go false h k = inr (k tt)

-- one that is H * 2 ^ g at least is a multiple of 2 ^ g: a finer one has too few digits to be so large
multiple : (H n g : ℕ) → Grid H n → H * 2 ^ g ≤ n → Multiple n (2 ^ g)
multiple H n g z h = elim (less-or-not z.1 g) [
  | inl l ↦
      let q = z.0 in
      let p = 2 ^ z.1 in
      let e : n ≡ q * p = z.2 in
      let few : q * p < 2 * H * p = mul-lt-mul_of_pos_right z.3 (pow_pos z.1) in
      let far : 2 ^ suc z.1 ≤ 2 ^ g = pow_mono l in
      let far' : 2 * p ≤ 2 ^ g = omega (arith, far) in
      absurd (omega (arith, few, e, h, mul-le-mul_left H far'))
  | inr l ↦ (
    z.0 * 2 ^ (z.1 - g),
    z.2
        ∙ ap (λ (x : ℕ). z.0 * 2 ^ x) (sym (less z.1 g l))
        ∙ ap (λ (x : ℕ). z.0 * x) (pow-add 2 (z.1 - g) g)
        ∙ sym (mul_assoc z.0 (2 ^ (z.1 - g)) (2 ^ g)),
  )
]
  where
    less : (j g : ℕ) → g ≤ j → j - g + g ≡ j
    less j g l = omega arith

-- ---- μ is half of S, rounded: to a whole number, or to one of at least H steps of 2 ^ g
abbrev pub Half : ℕ → ℕ → ℕ → Type 0
Half H S μ =
    ((2 * μ ≤ S + 1) × (S ≤ 2 * μ + 1))
    ⊎ ((g : ℕ) × (m : ℕ) × (μ ≡ m * 2 ^ g) × (H ≤ m) × (2 * H * 2 ^ g ≤ S) × (2 * μ ≤ S + 2 ^ g) × (S ≤ 2 * μ + 2 ^ g))

abbrev pub Thirds : ℕ → ℕ → ℕ → Type 0
Thirds α μ ζ = (3 * μ ≤ 2 * ζ + α) × (ζ + 2 * α ≤ 3 * μ)

-- where all three are multiples of the step, by their quotients
thirds : (α μ ζ G : ℕ) → 0 < G → Multiple α G → Multiple μ G → Multiple ζ G → 2 * μ ≤ α + ζ + G → α + ζ ≤ 2 * μ + G
    → α < μ → μ < ζ → Thirds α μ ζ
thirds α μ ζ G P α' μ' ζ' hi lo l r =
    let a = α'.0 in
    let m = μ'.0 in
    let z = ζ'.0 in
    let α≡ : α ≡ a * G = α'.1 in
    let μ≡ : μ ≡ m * G = μ'.1 in
    let ζ≡ : ζ ≡ z * G = ζ'.1 in
    let l' : a < m = lt_of_mul-lt-mul_right G (omega arith) in
    let r' : m < z = lt_of_mul-lt-mul_right G (omega arith) in
    let l'' : (a + 1) * G ≤ m * G = mul-le-mul_right G (omega arith) in
    let r'' : (m + 1) * G ≤ z * G = mul-le-mul_right G (omega arith) in
    (omega arith, omega arith)

-- where α is a multiple of half a step, F, and ζ and μ are multiples of a step: α is below H steps and less than a step
-- under μ, so μ is H steps and α is half a step under it
half_step : (H α ζ μ a z m F : ℕ) → 0 < F → α ≡ a * F → ζ ≡ 2 * (z * F) → μ ≡ 2 * (m * F) → H ≤ m
    → α < 2 * H * F → μ < α + 2 * F → α + ζ ≤ 2 * μ + 2 * F → μ < ζ → Thirds α μ ζ
half_step H α ζ μ a z m F P α≡ ζ≡ μ≡ M small near lo r =
    let under : a < 2 * H = lt_of_mul-lt-mul_right F (omega arith) in
    let over : 2 * m < a + 2 = lt_of_mul-lt-mul_right F (omega arith) in
    let sum : a + 2 * z ≤ 4 * m + 2 = le_of_mul-le-mul_right (omega arith) P in
    let gap : m < z = lt_of_mul-lt-mul_right F (omega arith) in
    let one : (3 * (2 * m)) * F ≤ (2 * (2 * z) + a) * F = mul-le-mul_right F (omega arith) in
    let other : (2 * z + 2 * a) * F ≤ (3 * (2 * m)) * F = mul-le-mul_right F (omega arith) in
    (omega arith, omega arith)

-- α is so large then that it is such a multiple, and where the step is 1 it is one of the step
close : (H α ζ μ m g : ℕ) → 2 ≤ H → Grid H α → Multiple ζ (2 ^ g) → μ ≡ m * 2 ^ g → H ≤ m → α < H * 2 ^ g
    → μ < α + 2 ^ g → 2 * μ ≤ α + ζ + 2 ^ g → α + ζ ≤ 2 * μ + 2 ^ g → α < μ → μ < ζ → Thirds α μ ζ
close H α ζ μ m zero two A Z e M small near hi lo l r =
    thirds α μ ζ 1 (omega arith) (α, sym (mul-one α)) (m, e) Z hi lo l r
close H α ζ μ m (suc g) two A Z e M small near hi lo l r =
    let F = 2 ^ g in
    let G : 2 ^ suc g ≡ 2 * F = omega arith in
    let M' : H * F ≤ m * F = mul-le-mul_right F M in
    let μ≡ : μ ≡ 2 * (m * F) = omega (arith, e, ap (λ (x : ℕ). m * x) G) in
    let two' : 2 * F ≤ H * F = mul-le-mul_right F two in
    let α' = multiple H α g A (omega arith) in
    let ζ≡ : ζ ≡ 2 * (Z.0 * F) = omega (arith, Z.1, ap (λ (x : ℕ). Z.0 * x) G) in
    let small' : α < 2 * H * F = omega (arith, small, ap (λ (x : ℕ). H * x) G) in
    half_step H α ζ μ α'.0 Z.0 m F (pow_pos g) α'.1 ζ≡ μ≡ M small' (omega arith) (omega arith) r

-- ζ is above the half of S
upper : (H α ζ g : ℕ) → Grid H ζ → 2 * H * 2 ^ g ≤ α + ζ → α < ζ → Multiple ζ (2 ^ g)
upper H α ζ g Z S l = multiple H ζ g Z (omega arith)

pub both-thirds : (H α ζ μ : ℕ) → 2 ≤ H → Grid H α → Grid H ζ → Half H (α + ζ) μ → α < μ → μ < ζ → Thirds α μ ζ
both-thirds H α ζ μ two A Z (inl h) l r = omega arith
both-thirds H α ζ μ two A Z (inr h) l r =
    let g = h.0 in
    let m = h.1 in
    let G = 2 ^ g in
    let e : μ ≡ m * G = h.2 in
    let M : H ≤ m = h.3 in
    let S : 2 * H * G ≤ α + ζ = h.4 in
    let hi : 2 * μ ≤ α + ζ + G = h.5 in
    let lo : α + ζ ≤ 2 * μ + G = h.6 in
    let ζ' = upper H α ζ g Z S (omega arith) in
    elim (less-or-not α (H * G)) [
      | inl small ↦ elim (less-or-not μ (α + G)) [
        | inl near ↦ close H α ζ μ m g two A ζ' e M small near hi lo l r
        | inr far ↦
            let z = ζ'.0 in
            let ζ≡ : ζ ≡ z * G = ζ'.1 in
            let gap : m < z = lt_of_mul-lt-mul_right G (omega arith) in
            let gap' : (m + 1) * G ≤ z * G = mul-le-mul_right G (omega arith) in
            (omega arith, omega arith)
      ]
      | inr large ↦ thirds α μ ζ G (pow_pos g) (multiple H α g A large) (m, e) ζ' hi lo l r
    ]

-- ---- a number γ of the format strictly between
step : (α γ G : ℕ) → Multiple α G → Multiple γ G → α < γ → α + G ≤ γ
step α γ G α' γ' l =
    let a = α'.0 in
    let c = γ'.0 in
    let α≡ : α ≡ a * G = α'.1 in
    let γ≡ : γ ≡ c * G = γ'.1 in
    let gap : a < c = lt_of_mul-lt-mul_right G (omega arith) in
    let gap' : (a + 1) * G ≤ c * G = mul-le-mul_right G (omega arith) in
    omega arith

pub lies-between : (H α γ ζ μ : ℕ) → Grid H α → Grid H γ → Grid H ζ → Half H (α + ζ) μ → α < γ → γ < ζ
    → (α < μ) × (μ < ζ)
lies-between H α γ ζ μ A C Z (inl h) l r = (omega arith, omega arith)
lies-between H α γ ζ μ A C Z (inr h) l r =
    let g = h.0 in
    let m = h.1 in
    let G = 2 ^ g in
    let P : 0 < G = pow_pos g in
    let e : μ ≡ m * G = h.2 in
    let M : H * G ≤ m * G = mul-le-mul_right G h.3 in
    let S : 2 * H * G ≤ α + ζ = h.4 in
    let hi : 2 * μ ≤ α + ζ + G = h.5 in
    let lo : α + ζ ≤ 2 * μ + G = h.6 in
    let ζ' = upper H α ζ g Z S (omega arith) in
    elim (less-or-not α (H * G)) [
      | inl small ↦
          let far : H * G + G ≤ ζ = step (H * G) ζ G (H, refl) ζ' (omega arith) in
          (omega arith, omega arith)
      | inr large ↦
          let α' = multiple H α g A large in
          let γ' = multiple H γ g C (omega arith) in
          let first = step α γ G α' γ' l in
          let second = step γ ζ G γ' ζ' r in
          (omega arith, omega arith)
    ]
