pub mod Outs
