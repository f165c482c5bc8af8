-- The manual's tables of unaligned loads and stores (document 001, BigEndianCPU = 1), whole, by computation. The register holds
-- the letters A to H, memory I to P, as ASCII; a table has a line for each address 0 to 7.
use Prim.Native.Nat.{ℕ}
use mathlib.Core.Path.{◌≡◌, refl}
use mathlib.Core.List.{List, [], ◌∷◌, map}
use Rattle.std.specs.Prelude.{Some}
use Rattle.memory.specs.declared.PAddr.{PAddr}
use Rattle.memory.specs.declared.Store.{Store}
use Rattle.memory.specs.Bytes.{byte, bytes_of, eight_of, with_bytes}
use Rattle.memory.specs.Loads.{span}
use Rattle.word.specs.Extend.{extend}
use Rattle.memory.specs.Unaligned.{lwl, lwr, ldl, ldr}
use Rattle.memory.specs.Stores.{put_bytes, swl, swr, sdl, sdr}

abbrev register : ℕ
register = 0x4142434445464748

abbrev memory : ℕ
memory = 0x494a4b4c4d4e4f50

-- f at each address of the eight
abbrev pub each : (PAddr → ℕ) → List ℕ
each f = map (λ (a : ℕ). f (record { 0 = a })) (0 ∷ 1 ∷ 2 ∷ 3 ∷ 4 ∷ 5 ∷ 6 ∷ 7 ∷ [])

-- the register after a load
abbrev loads : (ℕ → PAddr → ℕ → ℕ) → List ℕ
loads load = each (λ (p : PAddr). load memory p register)

-- the eight bytes of memory after a store
abbrev stores : (PAddr → ℕ → Store) → List ℕ
stores store = each (λ (p : PAddr). eight_of (put_bytes (bytes_of 8 memory) (Some (store p register))))

pub lwl_table :
    loads lwl
    ≡ 0x494a4b4c
    ∷ 0x4a4b4c48
    ∷ 0x4b4c4748
    ∷ 0x4c464748
    ∷ 0x4d4e4f50
    ∷ 0x4e4f5048
    ∷ 0x4f504748
    ∷ 0x50464748
    ∷ []
unfolding lwl with_bytes span extend
lwl_table = refl

pub lwr_table :
    loads lwr
    ≡ 0x4142434445464749
    ∷ 0x414243444546494a
    ∷ 0x4142434445494a4b
    ∷ 0x494a4b4c
    ∷ 0x414243444546474d
    ∷ 0x4142434445464d4e
    ∷ 0x41424344454d4e4f
    ∷ 0x4d4e4f50
    ∷ []
unfolding lwr with_bytes span extend
lwr_table = refl

pub ldl_table :
    loads ldl
    ≡ 0x494a4b4c4d4e4f50
    ∷ 0x4a4b4c4d4e4f5048
    ∷ 0x4b4c4d4e4f504748
    ∷ 0x4c4d4e4f50464748
    ∷ 0x4d4e4f5045464748
    ∷ 0x4e4f504445464748
    ∷ 0x4f50434445464748
    ∷ 0x5042434445464748
    ∷ []
unfolding ldl with_bytes span extend
ldl_table = refl

pub ldr_table :
    loads ldr
    ≡ 0x4142434445464749
    ∷ 0x414243444546494a
    ∷ 0x4142434445494a4b
    ∷ 0x41424344494a4b4c
    ∷ 0x414243494a4b4c4d
    ∷ 0x4142494a4b4c4d4e
    ∷ 0x41494a4b4c4d4e4f
    ∷ 0x494a4b4c4d4e4f50
    ∷ []
unfolding ldr with_bytes span extend
ldr_table = refl

-- words below zero: LWL extends every sign, LWR that of a whole word alone
abbrev signed : (ℕ → PAddr → ℕ → ℕ) → List ℕ
signed load = each (λ (p : PAddr). load 0xf1f2f3f4f5f6f7f8 p register)

pub lwl_signs :
    signed lwl
    ≡ 0xfffffffff1f2f3f4
    ∷ 0xfffffffff2f3f448
    ∷ 0xfffffffff3f44748
    ∷ 0xfffffffff4464748
    ∷ 0xfffffffff5f6f7f8
    ∷ 0xfffffffff6f7f848
    ∷ 0xfffffffff7f84748
    ∷ 0xfffffffff8464748
    ∷ []
unfolding lwl with_bytes span extend
lwl_signs = refl

pub lwr_signs :
    signed lwr
    ≡ 0x41424344454647f1
    ∷ 0x414243444546f1f2
    ∷ 0x4142434445f1f2f3
    ∷ 0xfffffffff1f2f3f4
    ∷ 0x41424344454647f5
    ∷ 0x414243444546f5f6
    ∷ 0x4142434445f5f6f7
    ∷ 0xfffffffff5f6f7f8
    ∷ []
unfolding lwr with_bytes span extend
lwr_signs = refl

pub swl_table :
    stores swl
    ≡ 0x454647484d4e4f50
    ∷ 0x494546474d4e4f50
    ∷ 0x494a45464d4e4f50
    ∷ 0x494a4b454d4e4f50
    ∷ 0x494a4b4c45464748
    ∷ 0x494a4b4c4d454647
    ∷ 0x494a4b4c4d4e4546
    ∷ 0x494a4b4c4d4e4f45
    ∷ []
unfolding byte bytes_of eight_of put_bytes
swl_table = refl

pub swr_table :
    stores swr
    ≡ 0x484a4b4c4d4e4f50
    ∷ 0x47484b4c4d4e4f50
    ∷ 0x4647484c4d4e4f50
    ∷ 0x454647484d4e4f50
    ∷ 0x494a4b4c484e4f50
    ∷ 0x494a4b4c47484f50
    ∷ 0x494a4b4c46474850
    ∷ 0x494a4b4c45464748
    ∷ []
unfolding byte bytes_of eight_of put_bytes
swr_table = refl

pub sdl_table :
    stores sdl
    ≡ 0x4142434445464748
    ∷ 0x4941424344454647
    ∷ 0x494a414243444546
    ∷ 0x494a4b4142434445
    ∷ 0x494a4b4c41424344
    ∷ 0x494a4b4c4d414243
    ∷ 0x494a4b4c4d4e4142
    ∷ 0x494a4b4c4d4e4f41
    ∷ []
unfolding byte bytes_of eight_of put_bytes
sdl_table = refl

pub sdr_table :
    stores sdr
    ≡ 0x484a4b4c4d4e4f50
    ∷ 0x47484b4c4d4e4f50
    ∷ 0x4647484c4d4e4f50
    ∷ 0x454647484d4e4f50
    ∷ 0x44454647484e4f50
    ∷ 0x4344454647484f50
    ∷ 0x4243444546474850
    ∷ 0x4142434445464748
    ∷ []
unfolding byte bytes_of eight_of put_bytes
sdr_table = refl
