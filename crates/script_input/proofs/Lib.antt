pub mod Contents
pub mod StepsDealt
pub mod Runnable
